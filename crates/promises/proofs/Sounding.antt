-- Every plan, call and list keeps stained words sound, whatever is read.
use Rattle.std.proofs.Common.{◌≡◌, ℕ, Bool, true, false, List, [], ◌∷◌, ◌++◌, get_or, refl, sym, ◌∙◌, subst, true≢false}
use Rattle.refusal.specs.declared.Refusal.TheVariants.{Length}
use Rattle.storage.specs.Word.{is_protected, parity_right}
use Rattle.works.specs.declared.fault.Fault.{Fault}
use Rattle.works.specs.declared.panel.Counts.{Counts}
use Rattle.engine.specs.declared.place.By.{By}
use Rattle.engine.specs.declared.place.By.TheVariants.{Program}
use Rattle.engine.specs.declared.place.Position.{Position}
use Rattle.engine.specs.Machine.{Machine, word_in, place, with_processor}
use Rattle.engine.specs.Events.{Event, Call as DeviceCall, stored_at, brought_to, reset}
use Rattle.engine.specs.Makes.{Makes, calling, calling_all}
use Rattle.engine.specs.Faults.{fault_of, parity_cause, protect_cause, raise}
use Rattle.engine.specs.Cycle.{Reference, reading, storing, bringing, marking, refer, parity_checked, checked_store, marked, tell}
use Rattle.engine.specs.Plan.{Plan, perform}
use Rattle.engine.specs.Step.{step_plan, begun, step}
use Rattle.controller.specs.declared.call.Call.{Call}
use Rattle.controller.specs.declared.call.ClearMode.{ClearMode}
use Rattle.controller.specs.declared.call.ClearMode.TheVariants.{Run as ClearRun, Display as ClearDisplay}
use Rattle.controller.specs.declared.call.Entry.{Entry}
use Rattle.controller.specs.declared.call.Lent.{Lent}
use Rattle.controller.specs.declared.call.Lent.TheVariants.{Opened, Other}
use Rattle.controller.specs.Console.{at_rest, i_of, data_switches, clearing, call}
use Rattle.controller.specs.Run.{lending, enter, run, after, events_of}
use Rattle.promises.specs.Stains.{Stain, unstained, stains, StainedSound}
use Rattle.promises.specs.Protection.{at_yes}
use Rattle.promises.specs.Alone.{StainedWordsStaySound}
use Rattle.promises.proofs.Laws.{Law, cycle_law, perform_law}
use Rattle.promises.proofs.Cores.{made_right, made_protected, own_sound, device_sound}
use Rattle.promises.proofs.Clearing.{run_sound, display_sound}
use Rattle.promises.proofs.Alike.{stains_append}
use Rattle.promises.proofs.Calls.{CallLaw, call_law}

-- whatever was stained and sound before, what is stained after is sound
pub record Sounds (s : Machine) (es : List Event) (t : Machine) : Type 0 where
  pub sound : (st : Stain) → StainedSound st s.core → StainedSound (stains st es) t.core

sounds_more : (s t u : Machine) (es fs : List Event) → Sounds s es t → Sounds t fs u → Sounds s (es ++ fs) u
sounds_more s t u es fs a b = record {
  sound = λ st h. subst (λ (z : Stain). StainedSound z u.core) (sym (stains_append st es fs)) (b.sound (stains st es) (a.sound st h));
}

raise_sounds : (f : Fault) (s : Machine) → Sounds s [] (raise f s)
unfolding raise
raise_sounds f s = record { sound = λ st h. h }

calling_sounds : (m : Makes) (q : Position) (c : DeviceCall) (s : Machine) → Sounds s (calling m q c s).events (calling m q c s).machine
unfolding calling
calling_sounds m q c s = record { sound = λ st h. h }

all_sounds : (m : Makes) (c : DeviceCall) (s : Machine) → Sounds s (calling_all m c s).events (calling_all m c s).machine
unfolding calling
all_sounds m c s = record { sound = λ st h. h }

tell_sounds : (m : Makes) (f : Counts → Counts) (s : Machine) → Sounds s (tell m f s).events (tell m f s).machine
unfolding tell calling
tell_sounds m f s = record { sound = λ st h. h }

-- references to core
read_sounds : (b : Bool) (by : By) (a : ℕ) (s : Machine) → Sounds s [] (parity_checked b by a s)
read_sounds true by a s = record { sound = λ st h. h }
read_sounds false by a s = raise_sounds (fault_of by (parity_cause by) a) s

store_sounds : (b : Bool) (by : By) (a w : ℕ) (s : Machine)
    → Sounds s (checked_store b by a w (stored_at a) s).events (checked_store b by a w (stored_at a) s).machine
store_sounds true by a w s = raise_sounds (fault_of by (protect_cause by) a) s
store_sounds false by a w s = record { sound = λ st h. own_sound a _ h }

bring_sounds : (b : Bool) (by : By) (a w : ℕ) (s : Machine) → is_protected (get_or s.core a 0) ≡ b
    → Sounds s (checked_store b by a w (brought_to a) s).events (checked_store b by a w (brought_to a) s).machine
bring_sounds true by a w s e = raise_sounds (fault_of by (protect_cause by) a) s
bring_sounds false by a w s e = record { sound = λ st h. device_sound a _ (made_protected w _ ∙ e, made_right w _) h }

mark_sounds : (b : Bool) (a : ℕ) (on : Bool) (w : ℕ) (s : Machine) → Sounds s (marked b a on w s).events (marked b a on w s).machine
mark_sounds true a on w s = record { sound = λ st h. own_sound a _ h }
mark_sounds false a on w s = record { sound = λ st h. h }

refer_sounds : (by : By) (r : Reference) (s : Machine) → Sounds s (refer by r s).events (refer by r s).machine
unfolding refer
refer_sounds by (reading a) s = record { sound = λ st h. (read_sounds (parity_right (word_in a s)) by (place a s) s).sound st h }
refer_sounds by (storing a w) s = store_sounds (is_protected (word_in a s)) by (place a s) w s
refer_sounds by (bringing a w) s = bring_sounds (is_protected (word_in a s)) by (place a s) w s refl
refer_sounds by (marking a on w) s = mark_sounds (at_yes s) (place a s) on w s

sounds_law : (m : Makes) → Law m Sounds
sounds_law m = record {
  parts = record {
    none = λ s. record { sound = λ st h. h };
    more = sounds_more;
    works = λ f s. record { sound = λ st h. h };
    raises = raise_sounds;
    drops = λ level s. record { sound = λ st h. h };
    calls = λ p c s o. calling_sounds m p c s;
    refers = refer_sounds;
  };
  tells = λ f s o. tell_sounds m f s;
}

pub perform_sounds : (m : Makes) (p : Plan) (s : Machine) → Sounds s (perform m p s).events (perform m p s).machine
perform_sounds m p s = perform_law Sounds (cycle_law (sounds_law m)) p s

-- a step, and the other calls
step_sounds : (m : Makes) (s : Machine) → Sounds s (step m s).events (step m s).machine
unfolding step
step_sounds m s =
    let d = perform m (step_plan m s) (begun s) in
    sounds_more s d.machine _ d.events []
    (record { sound = λ st h. (perform_sounds m (step_plan m s) (begun s)).sound st h }) (record { sound = λ st h. h })

clear_sounds : (mode : ClearMode) (s : Machine) → Sounds s (clearing mode (at_yes s) s).events (clearing mode (at_yes s) s).machine
clear_sounds ClearRun s = record { sound = λ st h. run_sound (at_yes s) (data_switches s) h }
clear_sounds ClearDisplay s = record { sound = λ st h. display_sound (at_yes s) h }

sounds_calls : (m : Makes) → CallLaw m (λ s d. Sounds s d.events d.machine)
sounds_calls m = record {
  refuses = λ r s. record { sound = λ st h. h };
  steps = step_sounds m;
  runs = λ x s. record { sound = λ st h. h };
  stops = λ s. record { sound = λ st h. (all_sounds m reset (with_processor (at_rest s.processor) s)).sound st h };
  switches = λ w s. record { sound = λ st h. h };
  latches = λ level bit s. record { sound = λ st h. h };
  loads_i = λ s. record { sound = λ st h. h };
  loads = λ s.
      let d = refer Program (storing (i_of s) (data_switches s)) s in
      sounds_more s d.machine _ d.events [] (refer_sounds Program (storing (i_of s) (data_switches s)) s) (record { sound = λ st h. h });
  displays = λ s. record { sound = λ st h. h };
  clears = clear_sounds;
  searches = λ s. record { sound = λ st h. h };
  counts = λ s. record { sound = λ st h. h };
}

call_sounds : (m : Makes) (c : Call) (s : Machine) → Sounds s (call m c s).events (call m c s).machine
call_sounds m c s = call_law (sounds_calls m) c s

-- lists of calls
enter_sounds : (m : Makes) (l : Lent) (c : Call) (s : Machine) → Sounds s (lending l m c s).events (lending l m c s).machine
enter_sounds m Opened c s = call_sounds m c s
enter_sounds m Other c s = (sounds_calls m).refuses Length s

run_sounds : (m : Makes) (es : List Entry) (s : Machine) → Sounds s (events_of (run m es s)) (after m es s)
run_sounds m [] s = record { sound = λ st h. h }
run_sounds m (e ∷ es) s =
    let d = enter m e s in sounds_more s d.machine _ d.events _ (enter_sounds m e.lent e.call s) (run_sounds m es d.machine)

-- where no word is stained, all that are stained are sound
pub none_stained : (c : List ℕ) → StainedSound unstained c
none_stained c = record { unprotected = λ a k lt. absurd (true≢false (sym k)); right = λ a k lt. absurd (true≢false (sym k)) }

pub stained_words_are_sound : StainedWordsStaySound
stained_words_are_sound = record {
  plans = λ m p s st h. (perform_sounds m p s).sound st h;
  calls = λ m c s st h. (call_sounds m c s).sound st h;
  lists = λ m es s st h. (run_sounds m es s).sound st h;
  runs = λ m es s. (run_sounds m es s).sound unstained (none_stained s.core);
}
