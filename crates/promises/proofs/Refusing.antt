-- A refused call comes to nothing, and no call but a step tells a device of a cycle.
use Rattle.std.proofs.Common.{◌≡◌, ℕ, ◌<◌, ◌≤◌, Bool, true, false, not, ◌&&◌, ◌≢◌, ◌⊎◌, List, [], map, length, get_or, sym, refl, ap, ◌∙◌, subst, inl, inr, ne_eqb, Err, is_ok, true≢false}
use lib.ListN.{length-map, get_or-eq_default}
use Rattle.std.proofs.lemmas.List.{get_or-map}
use Rattle.std.proofs.lemmas.Bool.{cases_lt}
use Rattle.refusal.specs.declared.Refusal.{Refusal}
use Rattle.refusal.specs.declared.Refusal.TheVariants.{Length, Wiring, NotStopped, Protected, CycleLimit}
use Rattle.storage.specs.Word.{data_of, is_protected}
use Rattle.engine.specs.declared.place.Position.{Position}
use Rattle.engine.specs.Machine.{words_of_size, Machine, word_in, with_processor}
use Rattle.engine.specs.Makes.{Makes}
use Rattle.controller.specs.declared.call.Call.{Call}
use Rattle.controller.specs.declared.call.Call.TheVariants.{Step, Start, Stop, ImmediateStop, SetSwitches, Point, LoadI, Load, Display, Clear, Search, Count}
use Rattle.controller.specs.Opening.{on_panel}
use Rattle.controller.specs.Console.{Answer, Done, accepted, refuse, only_if, at_rest, is_stopped, latching, loading_i, i_of, data_switches, below_limit, stepping, loading, displaying, unprotected, clearing, searching, made_call, lent_right, call}
use Rattle.controller.specs.declared.call.ClearMode.{ClearMode}
use Rattle.controller.specs.declared.call.ClearMode.TheVariants.{Run as ClearRun, Display as ClearDisplay}
use Rattle.works.specs.declared.panel.Switches.{Switches}
use Rattle.engine.specs.declared.place.By.TheVariants.{Program}
use Rattle.engine.specs.declared.state.Books.{Books}
use Rattle.engine.specs.Events.{reset}
use Rattle.engine.specs.Cycle.{storing, refer}
use Rattle.promises.specs.Ties.{CoreTied}
use Rattle.promises.specs.Bill.{tellings}
use Rattle.promises.specs.Protection.{at_yes}
use Rattle.promises.specs.Alone.{TiesHold}
use Rattle.promises.proofs.Calls.{CallLaw, call_law, all_silent, load_silent, clear_silent, call_tied}
use Rattle.promises.proofs.Tying.{perform_tied}
use Rattle.promises.proofs.Runs.{run_tied}
use Rattle.promises.proofs.Firm.{refer_firm}
use Rattle.promises.proofs.Cores.{made_data}
use Rattle.promises.proofs.Touching.{core_same, core_more, refer_core, perform_core, step_core, clear_core, all_core}
use Rattle.promises.proofs.Steps.{step_switch, all_books}
use Rattle.promises.proofs.Answering.{call_opening, opened_right, opening_refused}

pub record RefusedNothing (s : Machine) (d : Done) : Type 0 where
  pub nothing : (r : Refusal) → d.answer ≡ Err r → d ≡ refuse r s

no_refusal : (s : Machine) (d : Done) → is_ok d.answer ≡ true → RefusedNothing s d
no_refusal s d k = record { nothing = λ r e. absurd (true≢false (sym k ∙ ap is_ok e)) }

same_refusal : (r q : Refusal) (a : Answer) → a ≡ Err r → a ≡ Err q → r ≡ q
same_refusal r q a d e = cc

refusing_calls : (m : Makes) → CallLaw m RefusedNothing
refusing_calls m = record {
  refuses = λ r s. record { nothing = λ q e. ap (λ (x : Refusal). refuse x s) (same_refusal r q _ refl e) };
  steps = λ s. no_refusal s _ refl;
  runs = λ x s. no_refusal s _ refl;
  stops = λ s. no_refusal s _ refl;
  switches = λ w s. no_refusal s _ refl;
  latches = λ level bit s. no_refusal s _ refl;
  loads_i = λ s. no_refusal s _ refl;
  loads = λ s. no_refusal s _ refl;
  displays = λ s. no_refusal s _ refl;
  clears = λ mode s. no_refusal s _ refl;
  searches = λ s. no_refusal s _ refl;
  counts = λ s. no_refusal s _ refl;
}

refused_none : (m : Makes) (c : Call) (s : Machine) (r : Refusal) → (call m c s).answer ≡ Err r → call m c s ≡ refuse r s
refused_none m c s r e = (call_law (refusing_calls m) c s).nothing r e

-- a core of another length
wrong_length : (m : Makes) (c : Call) (s : Machine) → length s.core ≢ words_of_size s.processor.books.size → call m c s ≡ refuse Length s
unfolding call
wrong_length m c s h = ap (λ (b : Bool). only_if b Length (made_call m c) s) (ap (λ (b : Bool). s.processor.books.accepted && b) (ne_eqb _ _ h) ∙ neither s.processor.books.accepted)
  where
    neither : (b : Bool) → (b && false) ≡ false
    neither true = refl
    neither false = refl

-- no call but a step tells a device of a cycle
either_silent : (b : Bool) (r : Refusal) (f : Machine → Done) (s : Machine) (p : Position) → tellings p (f s).events ≡ 0 → tellings p (only_if b r f s).events ≡ 0
either_silent true r f s p h = h
either_silent false r f s p h = refl

abbrev stopped : Machine → Bool
stopped s = is_stopped s.processor.works.run

made_silent : (m : Makes) (c : Call) (s : Machine) (p : Position) → c ≢ Step → tellings p (made_call m c s).events ≡ 0
made_silent m Step s p h = absurd (h refl)
made_silent m Start s p h = refl
made_silent m Stop s p h = refl
made_silent m ImmediateStop s p h = all_silent m (with_processor (at_rest s.processor) s) p
made_silent m (SetSwitches w) s p h = refl
made_silent m (Point level bit) s p h = either_silent (on_panel level bit) Wiring (latching level bit) s p refl
made_silent m LoadI s p h = either_silent (stopped s) NotStopped loading_i s p refl
made_silent m Load s p h =
    either_silent (stopped s) NotStopped (λ t. only_if (not (is_protected (word_in (i_of t) t))) Protected loading t) s p
    (either_silent (not (is_protected (word_in (i_of s) s))) Protected loading s p (load_silent s p))
made_silent m Display s p h = either_silent (stopped s) NotStopped displaying s p refl
made_silent m (Clear mode) s p h = either_silent (stopped s) NotStopped (λ t. accepted (clearing mode (at_yes t) t)) s p (clear_silent mode s p)
made_silent m Search s p h = either_silent (stopped s) NotStopped searching s p refl
made_silent m Count s p h = refl

call_silent : (m : Makes) (c : Call) (s : Machine) → c ≢ Step → (p : Position) → tellings p (call m c s).events ≡ 0
unfolding call
call_silent m c s h p = either_silent (lent_right s) Length (made_call m c) s p (made_silent m c s p h)

-- a word of core changes only where a store is told of
either_core : (b : Bool) (r : Refusal) (f : Machine → Done) (s : Machine) → CoreTied s (f s).events (f s).machine → CoreTied s (only_if b r f s).events (only_if b r f s).machine
either_core true r f s h = h
either_core false r f s h = core_same s s [] refl

clear_tied : (mode : ClearMode) (s : Machine) → Clear mode ≢ Clear ClearDisplay → CoreTied s (clearing mode (at_yes s) s).events (clearing mode (at_yes s) s).machine
clear_tied ClearRun s h = clear_core s _ (at_yes s) (data_switches s) refl
clear_tied ClearDisplay s h = absurd (h refl)

made_core : (m : Makes) (c : Call) (s : Machine) → c ≢ Clear ClearDisplay → CoreTied s (made_call m c s).events (made_call m c s).machine
made_core m Step s h = either_core (below_limit s) CycleLimit (stepping m) s (step_core m s)
made_core m Start s h = core_same s _ [] refl
made_core m Stop s h = core_same s _ [] refl
made_core m ImmediateStop s h = let t = with_processor (at_rest s.processor) s in core_same s _ _ (all_core m reset t)
made_core m (SetSwitches w) s h = core_same s _ [] refl
made_core m (Point level bit) s h = either_core (on_panel level bit) Wiring (latching level bit) s (core_same s _ [] refl)
made_core m LoadI s h = either_core (stopped s) NotStopped loading_i s (core_same s _ [] refl)
made_core m Load s h =
    let r = storing (i_of s) (data_switches s) in
    either_core (stopped s) NotStopped (λ t. only_if (not (is_protected (word_in (i_of t) t))) Protected loading t) s
    (either_core (not (is_protected (word_in (i_of s) s))) Protected loading s (core_more s (refer Program r s).machine _ (refer Program r s).events [] (refer_core Program r s) (core_same _ _ [] refl)))
made_core m Display s h = either_core (stopped s) NotStopped displaying s (core_same s _ _ refl)
made_core m (Clear mode) s h = either_core (stopped s) NotStopped (λ t. accepted (clearing mode (at_yes t) t)) s (clear_tied mode s h)
made_core m Search s h = either_core (stopped s) NotStopped searching s (core_same s s [] refl)
made_core m Count s h = core_same s _ [] refl

call_core : (m : Makes) (c : Call) (s : Machine) → c ≢ Clear ClearDisplay → CoreTied s (call m c s).events (call m c s).machine
unfolding call
call_core m c s h = either_core (lent_right s) Length (made_call m c) s (made_core m c s h)

-- clear told Display leaves every word's data as they were
word_bits : (b : Bool) (w : ℕ) → data_of (unprotected b w) ≡ data_of w
word_bits true w = made_data w false
word_bits false w = refl

clear_bits : (b : Bool) (c : List ℕ) (a : ℕ) → data_of (get_or (map (unprotected b) c) a 0) ≡ data_of (get_or c a 0)
clear_bits b c a = by (cases_lt a (length c))
  where
    by : (a < length c) ⊎ (length c ≤ a) → data_of (get_or (map (unprotected b) c) a 0) ≡ data_of (get_or c a 0)
    by (inl lt) = ap data_of (get_or-map (unprotected b) c a 0 0 lt) ∙ word_bits b (get_or c a 0)
    by (inr ge) =
        ap data_of
        (get_or-eq_default (map (unprotected b) c) 0 (subst (λ (n : ℕ). n ≤ a) (sym (length-map c (unprotected b))) ge) ∙ sym (get_or-eq_default c 0 ge))

either_bits : (b : Bool) (r : Refusal) (f : Machine → Done) (s : Machine) (a : ℕ) → data_of (get_or (f s).machine.core a 0) ≡ data_of (get_or s.core a 0)
    → data_of (get_or (only_if b r f s).machine.core a 0) ≡ data_of (get_or s.core a 0)
either_bits true r f s a h = h
either_bits false r f s a h = refl

call_bits : (m : Makes) (s : Machine) (a : ℕ) → data_of (get_or (call m (Clear ClearDisplay) s).machine.core a 0) ≡ data_of (get_or s.core a 0)
unfolding call
call_bits m s a =
    either_bits (lent_right s) Length (made_call m (Clear ClearDisplay)) s a
    (either_bits (stopped s) NotStopped (λ t. accepted (clearing ClearDisplay (at_yes t) t)) s a (clear_bits (at_yes s) s.core a))

-- only a switches call moves the switch
either_yes : (b : Bool) (r : Refusal) (f : Machine → Done) (s : Machine) → at_yes (f s).machine ≡ at_yes s → at_yes (only_if b r f s).machine ≡ at_yes s
either_yes true r f s h = h
either_yes false r f s h = refl

clear_yes : (mode : ClearMode) (s : Machine) → at_yes (clearing mode (at_yes s) s).machine ≡ at_yes s
clear_yes ClearRun s = refl
clear_yes ClearDisplay s = refl

made_yes : (m : Makes) (c : Call) (s : Machine) → ((w : Switches) → c ≢ SetSwitches w) → at_yes (made_call m c s).machine ≡ at_yes s
made_yes m Step s h = either_yes (below_limit s) CycleLimit (stepping m) s (step_switch m s)
made_yes m Start s h = refl
made_yes m Stop s h = refl
made_yes m ImmediateStop s h = let t = with_processor (at_rest s.processor) s in ap (λ (b : Books). b.switches.write_protect) (all_books m reset t)
made_yes m (SetSwitches w) s h = absurd (h w refl)
made_yes m (Point level bit) s h = either_yes (on_panel level bit) Wiring (latching level bit) s refl
made_yes m LoadI s h = either_yes (stopped s) NotStopped loading_i s refl
made_yes m Load s h =
    either_yes (stopped s) NotStopped (λ t. only_if (not (is_protected (word_in (i_of t) t))) Protected loading t) s
    (either_yes (not (is_protected (word_in (i_of s) s))) Protected loading s (ap (λ (b : Books). b.switches.write_protect) (refer_firm Program (storing (i_of s) (data_switches s)) s).books))
made_yes m Display s h = either_yes (stopped s) NotStopped displaying s refl
made_yes m (Clear mode) s h = either_yes (stopped s) NotStopped (λ t. accepted (clearing mode (at_yes t) t)) s (clear_yes mode s)
made_yes m Search s h = either_yes (stopped s) NotStopped searching s refl
made_yes m Count s h = refl

call_yes : (m : Makes) (c : Call) (s : Machine) → ((w : Switches) → c ≢ SetSwitches w) → at_yes (call m c s).machine ≡ at_yes s
unfolding call
call_yes m c s h = either_yes (lent_right s) Length (made_call m c) s (made_yes m c s h)

pub ties_hold : TiesHold
ties_hold = record {
  plans = perform_tied;
  calls = call_tied;
  lists = run_tied;
  plans_core = perform_core;
  calls_core = call_core;
  calls_size = λ m c s. (call_opening m c s).length;
  bits_only = call_bits;
  refusals = refused_none;
  no_cycle = call_silent;
  switch = call_yes;
  another_length = wrong_length;
  opened = opened_right;
  refused_opening = opening_refused;
}
