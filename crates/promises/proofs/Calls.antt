-- The calls of one machine: each call's devices, protected words and totals.
use Rattle.std.proofs.Common.{◌≡◌, ℕ, ◌+◌, ◌<◌, ◌≤◌, Bool, true, false, cond, not, ◌⊎◌, List, [], ◌∷◌, ◌++◌, map, length, get_or, sym, refl, ap, ◌∙◌, subst, inl, inr, true≢false, arith}
use lib.ListN.{get_or-eq_default}
use Rattle.std.proofs.lemmas.List.{get_or-map}
use Rattle.std.proofs.lemmas.Bool.{cases_lt}
use Rattle.refusal.specs.declared.Refusal.{Refusal}
use Rattle.refusal.specs.declared.Refusal.TheVariants.{Length, Wiring, NotStopped, Protected, CycleLimit}
use Rattle.device.specs.Meaning.{Meaning}
use Rattle.storage.specs.Word.{data_of, is_protected, word_of}
use Rattle.works.specs.declared.panel.Switches.{Switches}
use Rattle.works.specs.declared.panel.RunState.{RunState}
use Rattle.works.specs.declared.panel.RunState.TheVariants.{Stopped, Running}
use Rattle.engine.specs.declared.place.By.TheVariants.{Program}
use Rattle.engine.specs.declared.place.Position.{Position}
use Rattle.engine.specs.declared.place.Position.TheVariants.{First, Second, Third, Fourth}
use Rattle.engine.specs.Machine.{Machine, Dev, dev_at, word_in, with_processor, with_run, work}
use Rattle.engine.specs.Events.{Event, stored_at, reset, quiet}
use Rattle.engine.specs.Makes.{Makes, make_at, calling, calling_all}
use Rattle.engine.specs.Cycle.{storing, refer}
use Rattle.engine.specs.Step.{step}
use Rattle.controller.specs.declared.call.Call.{Call}
use Rattle.controller.specs.declared.call.Call.TheVariants.{Step, Start, Stop, ImmediateStop, SetSwitches, Point, LoadI, Load, Display, Clear, Search, Count}
use Rattle.controller.specs.declared.call.ClearMode.{ClearMode}
use Rattle.controller.specs.declared.call.ClearMode.TheVariants.{Run as ClearRun, Display as ClearDisplay}
use Rattle.controller.specs.Opening.{on_panel}
use Rattle.controller.specs.Console.{Done, accepted, refuse, only_if, told, below_limit, stepping, at_rest, stopping, switching, latching, is_stopped, loading_i, i_of, next_i, loading, displaying, data_switches, is_cleared, cleared, unprotected, swept, clearing, searching, counting, made_call, lent_right, call}
use Rattle.promises.specs.Ties.{after_events, Tied}
use Rattle.promises.specs.Bill.{tellings, Fair, totals_of, restarted_by_count}
use Rattle.promises.specs.Protection.{Stands, at_yes}
use Rattle.promises.proofs.Tying.{tied_more, same_devices, calling_all_tied, refer_tied}
use Rattle.promises.proofs.Firm.{stands_same, refer_firm}
use Rattle.promises.proofs.Billing.{tellings_append, refer_uncounted}
use Rattle.promises.proofs.Steps.{step_tied, step_stands, step_adds, step_fair}

-- what holds of a refusal and of each thing that a call may come to holds of every call
pub record CallLaw (m : Makes) (R : Machine → Done → Type 0) : Type 0 where
  pub refuses : (r : Refusal) (s : Machine) → R s (refuse r s)
  pub steps : (s : Machine) → R s (stepping m s)
  pub runs : (x : RunState) (s : Machine) → R s (accepted (quiet (work (with_run x) s)))
  pub stops : (s : Machine) → R s (stopping m s)
  pub switches : (w : Switches) (s : Machine) → R s (switching w s)
  pub latches : (level bit : ℕ) (s : Machine) → R s (latching level bit s)
  pub loads_i : (s : Machine) → R s (loading_i s)
  pub loads : (s : Machine) → R s (loading s)
  pub displays : (s : Machine) → R s (displaying s)
  pub clears : (mode : ClearMode) (s : Machine) → R s (accepted (clearing mode (at_yes s) s))
  pub searches : (s : Machine) → R s (searching s)
  pub counts : (s : Machine) → R s (counting s)

module _ {m : Makes} {R : Machine → Done → Type 0} (l : CallLaw m R) where
  only : (b : Bool) (r : Refusal) (f : Machine → Done) (s : Machine) → R s (f s) → R s (only_if b r f s)
  only true r f s h = h
  only false r f s h = l.refuses r s

  made : (c : Call) (s : Machine) → R s (made_call m c s)
  made Step s = only (below_limit s) CycleLimit (stepping m) s (l.steps s)
  made Start s = l.runs Running s
  made Stop s = l.runs Stopped s
  made ImmediateStop s = l.stops s
  made (SetSwitches w) s = l.switches w s
  made (Point level bit) s = only (on_panel level bit) Wiring (latching level bit) s (l.latches level bit s)
  made LoadI s = only (is_stopped s.processor.works.run) NotStopped loading_i s (l.loads_i s)
  made Load s =
      only (is_stopped s.processor.works.run) NotStopped (λ t. only_if (not (is_protected (word_in (i_of t) t))) Protected loading t) s
      (only (not (is_protected (word_in (i_of s) s))) Protected loading s (l.loads s))
  made Display s = only (is_stopped s.processor.works.run) NotStopped displaying s (l.displays s)
  made (Clear mode) s = only (is_stopped s.processor.works.run) NotStopped (λ t. accepted (clearing mode (at_yes t) t)) s (l.clears mode s)
  made Search s = only (is_stopped s.processor.works.run) NotStopped searching s (l.searches s)
  made Count s = l.counts s

  pub call_law : (c : Call) (s : Machine) → R s (call m c s)
  unfolding call
  call_law c s = only (lent_right s) Length (made_call m c) s (made c s)

-- a sweep of stores calls no device, and tells none
either_devices : (x : Bool) (a : ℕ) (es : List Event) (m : Meaning) (p : Position) (d : Dev) → after_events m p es d ≡ d → after_events m p (cond x (stored_at a ∷ es) es) d ≡ d
either_devices true a es m p d h = h
either_devices false a es m p d h = h

swept_devices : (b : Bool) (a : ℕ) (c : List ℕ) (m : Meaning) (p : Position) (d : Dev) → after_events m p (swept b a c) d ≡ d
swept_devices b a [] m p d = refl
swept_devices b a (w ∷ ws) m p d = either_devices (is_cleared b w) a (swept b (a + 1) ws) m p d (swept_devices b (a + 1) ws m p d)

either_silent : (x : Bool) (a : ℕ) (es : List Event) (p : Position) → tellings p es ≡ 0 → tellings p (cond x (stored_at a ∷ es) es) ≡ 0
either_silent true a es p h = omega arith
either_silent false a es p h = h

swept_silent : (b : Bool) (a : ℕ) (c : List ℕ) (p : Position) → tellings p (swept b a c) ≡ 0
swept_silent b a [] p = refl
swept_silent b a (w ∷ ws) p = either_silent (is_cleared b w) a (swept b (a + 1) ws) p (swept_silent b (a + 1) ws p)

-- devices
abbrev pub CallTied : Makes → Machine → Done → Type 0
CallTied m s d = Tied m s d.events d.machine

tied_clear : (m : Makes) (mode : ClearMode) (s : Machine) → CallTied m s (accepted (clearing mode (at_yes s) s))
tied_clear m ClearRun s = record {
  devices = λ p. same_devices s (clearing ClearRun (at_yes s) s).machine refl refl refl refl p ∙ sym (swept_devices (at_yes s) 0 s.core (make_at p m) p (dev_at p s));
}
tied_clear m ClearDisplay s = record { devices = same_devices s (clearing ClearDisplay (at_yes s) s).machine refl refl refl refl }

tied_calls : (m : Makes) → CallLaw m (CallTied m)
tied_calls m = record {
  refuses = λ r s. record { devices = λ p. refl };
  steps = step_tied m;
  runs = λ x s. record { devices = same_devices s (work (with_run x) s) refl refl refl refl };
  stops = λ s.
      let t = with_processor (at_rest s.processor) s in
      tied_more m s t _ [] _ (record { devices = same_devices s t refl refl refl refl }) (calling_all_tied m reset t);
  switches = λ w s. record { devices = same_devices s (switching w s).machine refl refl refl refl };
  latches = λ level bit s. record { devices = same_devices s (latching level bit s).machine refl refl refl refl };
  loads_i = λ s. record { devices = same_devices s (loading_i s).machine refl refl refl refl };
  loads = λ s.
      let d = refer Program (storing (i_of s) (data_switches s)) s in
      tied_more m s d.machine _ d.events [] (refer_tied m Program (storing (i_of s) (data_switches s)) s)
      (record { devices = same_devices d.machine (next_i d.machine).machine refl refl refl refl });
  displays = λ s. record { devices = same_devices s (displaying s).machine refl refl refl refl };
  clears = tied_clear m;
  searches = λ s. record { devices = λ p. refl };
  counts = λ s. record { devices = same_devices s (counting s).machine refl refl refl refl };
}

pub call_tied : (m : Makes) (c : Call) (s : Machine) → Tied m s (call m c s).events (call m c s).machine
call_tied m c s = call_law (tied_calls m) c s

-- protected words
abbrev pub CallStands : Machine → Done → Type 0
CallStands s d = at_yes s ≡ false → Stands s.core d.machine.core

unprotected_zero : is_protected 0 ≡ false
unprotected_zero = refl

map_stands : (f : ℕ → ℕ) (c : List ℕ) → ((w : ℕ) → is_protected w ≡ true → f w ≡ w) → Stands c (map f c)
map_stands f c h = record { words = λ a k. by a k (cases_lt a (length c)) }
  where
    by : (a : ℕ) → is_protected (get_or c a 0) ≡ true → (a < length c) ⊎ (length c ≤ a) → get_or (map f c) a 0 ≡ get_or c a 0
    by a k (inl lt) = get_or-map f c a 0 0 lt ∙ h (get_or c a 0) k
    by a k (inr ge) = absurd (true≢false (sym k ∙ ap is_protected (get_or-eq_default c 0 ge) ∙ unprotected_zero))

kept_protected : (b : Bool) (d w : ℕ) → b ≡ false → is_protected w ≡ true → cleared b d w ≡ w
kept_protected true d w e k = absurd (true≢false e)
kept_protected false d w e k = ap (λ (x : Bool). cond (not x) (word_of (data_of d) false) w) k

kept_bits : (b : Bool) (w : ℕ) → b ≡ false → unprotected b w ≡ w
kept_bits true w e = absurd (true≢false e)
kept_bits false w e = refl

stands_clear : (mode : ClearMode) (s : Machine) → CallStands s (accepted (clearing mode (at_yes s) s))
stands_clear ClearRun s e = map_stands (cleared (at_yes s) (data_switches s)) s.core (λ w k. kept_protected (at_yes s) (data_switches s) w e k)
stands_clear ClearDisplay s e = map_stands (unprotected (at_yes s)) s.core (λ w k. kept_bits (at_yes s) w e)

all_core : (m : Makes) (s : Machine) → (calling_all m reset s).machine.core ≡ s.core
unfolding calling
all_core m s = refl

stands_calls : (m : Makes) → CallLaw m CallStands
stands_calls m = record {
  refuses = λ r s e. stands_same s.core;
  steps = step_stands m;
  runs = λ x s e. stands_same s.core;
  stops = λ s e. subst (λ (c : List ℕ). Stands s.core c) (sym (all_core m (with_processor (at_rest s.processor) s))) (stands_same s.core);
  switches = λ w s e. stands_same s.core;
  latches = λ level bit s e. stands_same s.core;
  loads_i = λ s e. stands_same s.core;
  loads = λ s e. (refer_firm Program (storing (i_of s) (data_switches s)) s).stands e;
  displays = λ s e. stands_same s.core;
  clears = stands_clear;
  searches = λ s e. stands_same s.core;
  counts = λ s e. stands_same s.core;
}

pub call_stands : (m : Makes) (c : Call) (s : Machine) → at_yes s ≡ false → Stands s.core (call m c s).machine.core
call_stands m c s = call_law (stands_calls m) c s

-- the bill
pub record CallBilled (s : Machine) (d : Done) : Type 0 where
  pub adds : (p : Position) (so_far : List Event) → tellings p so_far ≡ told (totals_of s)
      → tellings p (restarted_by_count d.answer (so_far ++ d.events)) ≡ told (totals_of d.machine)
  pub fair : Fair (totals_of s) → Fair (totals_of d.machine)

-- a call that tells no device and keeps the totals, whose answer is not a bill
quiet_billed : (s : Machine) (d : Done) → ((es : List Event) → restarted_by_count d.answer es ≡ es) → ((p : Position) → tellings p d.events ≡ 0)
    → totals_of d.machine ≡ totals_of s → CallBilled s d
quiet_billed s d u k e = record {
  adds = λ p so_far h.
      let a = ap (tellings p) (u (so_far ++ d.events)) in
      let b = tellings_append p so_far d.events in
      let c = k p in
      let t = ap told e in
      omega arith;
  fair = λ h. subst Fair (sym e) h;
}

pub all_silent : (m : Makes) (s : Machine) (p : Position) → tellings p (calling_all m reset s).events ≡ 0
unfolding calling
all_silent m s First = refl
all_silent m s Second = refl
all_silent m s Third = refl
all_silent m s Fourth = refl

all_totals : (m : Makes) (s : Machine) → totals_of (calling_all m reset s).machine ≡ totals_of s
unfolding calling
all_totals m s = refl

pub clear_silent : (mode : ClearMode) (s : Machine) (p : Position) → tellings p (clearing mode (at_yes s) s).events ≡ 0
clear_silent ClearRun s p = swept_silent (at_yes s) 0 s.core p
clear_silent ClearDisplay s p = refl

clear_totals : (mode : ClearMode) (s : Machine) → totals_of (clearing mode (at_yes s) s).machine ≡ totals_of s
clear_totals ClearRun s = refl
clear_totals ClearDisplay s = refl

billed_clear : (mode : ClearMode) (s : Machine) → CallBilled s (accepted (clearing mode (at_yes s) s))
billed_clear mode s = quiet_billed s _ (λ es. refl) (clear_silent mode s) (clear_totals mode s)

pub load_silent : (s : Machine) (p : Position) → tellings p (loading s).events ≡ 0
load_silent s p =
    let d = refer Program (storing (i_of s) (data_switches s)) s in
    let a = tellings_append p d.events [] in
    let b = (refer_uncounted Program (storing (i_of s) (data_switches s)) s).silent p in
    omega arith

load_totals : (s : Machine) → totals_of (loading s).machine ≡ totals_of s
load_totals s = ap (λ (b : Rattle.engine.specs.declared.state.Books.Books). b.totals) (refer_firm Program (storing (i_of s) (data_switches s)) s).books

billed_calls : (m : Makes) → CallLaw m CallBilled
billed_calls m = record {
  refuses = λ r s. quiet_billed s _ (λ es. refl) (λ p. refl) refl;
  steps = λ s. record {
    adds = λ p so_far h. let a = step_adds m s p in let b = tellings_append p so_far (step m s).events in omega arith;
    fair = step_fair m s;
  };
  runs = λ x s. quiet_billed s _ (λ es. refl) (λ p. refl) refl;
  stops = λ s.
      let t = with_processor (at_rest s.processor) s in
      quiet_billed s _ (λ es. refl) (all_silent m t) (all_totals m t);
  switches = λ w s. quiet_billed s _ (λ es. refl) (λ p. refl) refl;
  latches = λ level bit s. quiet_billed s _ (λ es. refl) (λ p. refl) refl;
  loads_i = λ s. quiet_billed s _ (λ es. refl) (λ p. refl) refl;
  loads = λ s. quiet_billed s _ (λ es. refl) (load_silent s) (load_totals s);
  displays = λ s. quiet_billed s _ (λ es. refl) (λ p. refl) refl;
  clears = billed_clear;
  searches = λ s. quiet_billed s _ (λ es. refl) (λ p. refl) refl;
  counts = λ s. record { adds = λ p so_far h. refl; fair = λ h. omega arith };
}

pub call_billed : (m : Makes) (c : Call) (s : Machine) → CallBilled s (call m c s)
call_billed m c s = call_law (billed_calls m) c s

pub refused_billed : (m : Makes) (r : Refusal) (s : Machine) → CallBilled s (refuse r s)
refused_billed m r s = (billed_calls m).refuses r s
