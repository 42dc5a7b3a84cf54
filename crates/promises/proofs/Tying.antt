-- Each device is what its own calls, among the events, made of it.
use Rattle.std.proofs.Common.{◌≡◌, ℕ, Bool, true, false, List, [], ◌∷◌, ◌++◌, sym, refl, ap, ◌∙◌}
use Rattle.device.specs.Meaning.{Meaning}
use Rattle.storage.specs.Word.{is_protected, parity_right}
use Rattle.works.specs.declared.fault.Fault.{Fault}
use Rattle.works.specs.declared.panel.Counts.{Counts}
use Rattle.engine.specs.declared.place.By.{By}
use Rattle.engine.specs.declared.place.Position.{Position}
use Rattle.engine.specs.declared.place.Position.TheVariants.{First, Second, Third, Fourth}
use Rattle.engine.specs.Machine.{Machine, Dev, dev_at, upon, word_in, place, with_dev, work}
use Rattle.engine.specs.Events.{Event, Call, passed, stored_at, brought_to}
use Rattle.engine.specs.Makes.{Makes, make_at, made, calling, calling_all}
use Rattle.engine.specs.Faults.{fault_of, parity_cause, protect_cause, raise}
use Rattle.engine.specs.Cycle.{Reference, reading, storing, bringing, marking, refer, parity_checked, checked_store, marked, tell, counted}
use Rattle.engine.specs.Levels.{drop_points}
use Rattle.engine.specs.Plan.{Plan, perform}
use Rattle.promises.specs.Ties.{after_event, after_events, Tied}
use Rattle.promises.proofs.Laws.{Law, cycle_law, perform_law}

pub after_append : (m : Meaning) (p : Position) (es fs : List Event) (d : Dev) → after_events m p (es ++ fs) d ≡ after_events m p fs (after_events m p es d)
after_append m p [] fs d = refl
after_append m p (e ∷ es) fs d = after_append m p es fs (after_event m p e d)

pub tied_more : (m : Makes) (s t u : Machine) (es fs : List Event) → Tied m s es t → Tied m t fs u → Tied m s (es ++ fs) u
tied_more m s t u es fs a b = record {
  devices = λ p. b.devices p ∙ ap (λ (d : Dev). after_events (make_at p m) p fs d) (a.devices p) ∙ sym (after_append (make_at p m) p es fs (dev_at p s));
}

-- a machine with the same devices
pub same_devices : (s t : Machine) → t.first ≡ s.first → t.second ≡ s.second → t.third ≡ s.third → t.fourth ≡ s.fourth → (p : Position) → dev_at p t ≡ dev_at p s
same_devices s t a b c d First = a
same_devices s t a b c d Second = b
same_devices s t a b c d Third = c
same_devices s t a b c d Fourth = d

pub raise_devices : (f : Fault) (s : Machine) (p : Position) → dev_at p (raise f s) ≡ dev_at p s
unfolding raise
raise_devices f s p = same_devices s (raise f s) refl refl refl refl p

-- a call changes the device that is called, by its own meaning
called_device : (m : Makes) (q : Position) (c : Call) (s : Machine) (p : Position)
    → dev_at p (with_dev q (made (make_at q m) c (dev_at q s)) s) ≡ upon p q (made (make_at p m) c (dev_at p s)) (dev_at p s)
called_device m First c s First = refl
called_device m First c s Second = refl
called_device m First c s Third = refl
called_device m First c s Fourth = refl
called_device m Second c s First = refl
called_device m Second c s Second = refl
called_device m Second c s Third = refl
called_device m Second c s Fourth = refl
called_device m Third c s First = refl
called_device m Third c s Second = refl
called_device m Third c s Third = refl
called_device m Third c s Fourth = refl
called_device m Fourth c s First = refl
called_device m Fourth c s Second = refl
called_device m Fourth c s Third = refl
called_device m Fourth c s Fourth = refl

pub calling_tied : (m : Makes) (q : Position) (c : Call) (s : Machine) → Tied m s (calling m q c s).events (calling m q c s).machine
unfolding calling
calling_tied m q c s = record { devices = called_device m q c s }

pub calling_all_tied : (m : Makes) (c : Call) (s : Machine) → Tied m s (calling_all m c s).events (calling_all m c s).machine
calling_all_tied m c s =
    let a = calling m First c s in
    let b = calling m Second c a.machine in
    let d = calling m Third c b.machine in
    tied_more m s d.machine _ _ _
    (tied_more m s b.machine _ _ _ (tied_more m s a.machine _ _ _ (calling_tied m First c s) (calling_tied m Second c a.machine)) (calling_tied m Third c b.machine))
    (calling_tied m Fourth c d.machine)

tell_tied : (m : Makes) (f : Counts → Counts) (s : Machine) → Tied m s (tell m f s).events (tell m f s).machine
unfolding tell
tell_tied m f s = tied_more m s (counted f s) _ [] _ (record { devices = same_devices s (counted f s) refl refl refl refl }) (calling_all_tied m passed (counted f s))

-- a reference to core calls no device
parity_devices : (b : Bool) (by : By) (a : ℕ) (s : Machine) (p : Position) → dev_at p (parity_checked b by a s) ≡ dev_at p s
parity_devices true by a s p = refl
parity_devices false by a s p = raise_devices (fault_of by (parity_cause by) a) s p

store_tied : (b : Bool) (m : Makes) (by : By) (a w : ℕ) (e : Event) (s : Machine) → ((p : Position) (d : Dev) → after_event (make_at p m) p e d ≡ d)
    → Tied m s (checked_store b by a w e s).events (checked_store b by a w e s).machine
store_tied true m by a w e s h = record { devices = raise_devices (fault_of by (protect_cause by) a) s }
store_tied false m by a w e s h = record { devices = λ p. same_devices s (checked_store false by a w e s).machine refl refl refl refl p ∙ sym (h p (dev_at p s)) }

marked_tied : (b : Bool) (m : Makes) (a : ℕ) (on : Bool) (w : ℕ) (s : Machine) → Tied m s (marked b a on w s).events (marked b a on w s).machine
marked_tied true m a on w s = record { devices = same_devices s (marked true a on w s).machine refl refl refl refl }
marked_tied false m a on w s = record { devices = λ p. refl }

pub refer_tied : (m : Makes) (by : By) (r : Reference) (s : Machine) → Tied m s (refer by r s).events (refer by r s).machine
unfolding refer
refer_tied m by (reading a) s = record { devices = parity_devices (parity_right (word_in a s)) by (place a s) s }
refer_tied m by (storing a w) s = store_tied (is_protected (word_in a s)) m by (place a s) w (stored_at (place a s)) s (λ p d. refl)
refer_tied m by (bringing a w) s = store_tied (is_protected (word_in a s)) m by (place a s) w (brought_to (place a s)) s (λ p d. refl)
refer_tied m by (marking a on w) s = marked_tied s.processor.books.switches.write_protect m (place a s) on w s

tied_law : (m : Makes) → Law m (Tied m)
tied_law m = record {
  parts = record {
    none = λ s. record { devices = λ p. refl };
    more = tied_more m;
    works = λ f s. record { devices = same_devices s (work f s) refl refl refl refl };
    raises = λ f s. record { devices = raise_devices f s };
    drops = λ level s. record { devices = same_devices s (drop_points level s) refl refl refl refl };
    calls = λ p c s o. calling_tied m p c s;
    refers = refer_tied m;
  };
  tells = λ f s o. tell_tied m f s;
}

pub perform_tied : (m : Makes) (p : Plan) (s : Machine) → Tied m s (perform m p s).events (perform m p s).machine
perform_tied m p s = perform_law (Tied m) (cycle_law (tied_law m)) p s
