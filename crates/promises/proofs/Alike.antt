-- Two machines that are alike stay alike, through every plan that reads no stained word, and the same takes place in both.
use Rattle.std.proofs.Common.{◌≡◌, ℕ, ◌%◌, Bool, true, false, List, [], ◌∷◌, ◌++◌, get_or, sym, refl, ap, ◌∙◌, subst, ap₂}
use Rattle.storage.specs.Word.{data_of, is_protected, parity_right, word_of}
use Rattle.works.specs.declared.fault.Fault.{Fault}
use Rattle.works.specs.declared.panel.Counts.{Counts}
use Rattle.engine.specs.declared.place.By.{By}
use Rattle.engine.specs.declared.place.Position.{Position}
use Rattle.engine.specs.declared.place.Position.TheVariants.{First, Second, Third, Fourth}
use Rattle.engine.specs.declared.state.Processor.{Processor}
use Rattle.engine.specs.Machine.{Machine, Dev, place, word_in, dev_at, position_of, channel_at, with_processor, with_core, with_dev, with_works, with_points, with_channel, work}
use Rattle.engine.specs.Events.{Event, read_from, stored_at, brought_to, Call, passed, Did, quiet, ◌then◌}
use Rattle.engine.specs.Makes.{Makes, make_at, control_after, made, calling, calling_all}
use Rattle.engine.specs.Faults.{fault_of, parity_cause, protect_cause, faulted, raise}
use Rattle.engine.specs.Cycle.{Reference, reading, storing, bringing, marking, parity_checked, checked_store, marked, refer, data_in, with_counts, counted, tell}
use Rattle.promises.specs.Stains.{Stain, stain, stains, ReadsNoStain, Cores, Alike}
use Rattle.promises.proofs.Cores.{made_right, made_protected, own_cores, device_cores, same_bit}

-- events after events
pub stains_append : (st : Stain) (es fs : List Event) → stains st (es ++ fs) ≡ stains (stains st es) fs
stains_append st [] fs = refl
stains_append st (e ∷ es) fs = stains_append (stain st e) es fs

pub unread_append : (st : Stain) (es fs : List Event) → ReadsNoStain st (es ++ fs) → ReadsNoStain st es × ReadsNoStain (stains st es) fs
unread_append st [] fs h = (tt, h)
unread_append st (e ∷ es) fs h = let r = unread_append (stain st e) es fs h.1 in ((h.0, r.0), r.1)

-- what was done in both cannot be told apart
pub record Same (st : Stain) (d e : Did) : Type 0 where
  pub events : d.events ≡ e.events
  pub alike : Alike (stains st d.events) d.machine e.machine

-- two ways of going on that do the same to machines that are alike
abbrev pub Both : (Machine → Did) → (Machine → Did) → Type 0
Both f g = (st : Stain) (s t : Machine) → Alike st s t → ReadsNoStain st (f s).events → Same st (f s) (g t)

abbrev pub Kept : (Machine → Did) → Type 0
Kept f = Both f f

pub same_then : {st : Stain} {d e : Did} (f g : Machine → Did)
    → Same st d e → Same (stains st d.events) (f d.machine) (g e.machine) → Same st (d then f) (e then g)
same_then {st} {d} {e} f g a b = record {
  events = ap₂ (λ (x y : List Event). x ++ y) a.events b.events;
  alike = subst (λ (z : Stain). Alike z (f d.machine).machine (g e.machine).machine) (sym (stains_append st d.events (f d.machine).events)) b.alike;
}

-- one thing after another, where the second may depend on what was before the first
pub then_both : {st : Stain} {d e : Did} (f g : Machine → Did) → ReadsNoStain st (d then f).events
    → (ReadsNoStain st d.events → Same st d e) → (Same st d e → Both f g) → Same st (d then f) (e then g)
then_both {st} {d} {e} f g cl a b =
    let parts = unread_append st d.events (f d.machine).events cl in
    let x = a parts.0 in
    same_then f g x (b x (stains st d.events) d.machine e.machine x.alike parts.1)

pub kept_then : {f g h k : Machine → Did} → Both f g → Both h k → Both (λ s. f s then h) (λ s. g s then k)
kept_then {f} {g} {h} {k} a b st s t al cl = then_both h k cl (a st s t al) (λ x. b)

-- the parts of machines that are alike
pub control_at : {st : Stain} {s t : Machine} (p : Position) → Alike st s t → (dev_at p s).control ≡ (dev_at p t).control
control_at First h = h.first
control_at Second h = h.second
control_at Third h = h.third
control_at Fourth h = h.fourth

-- whatever follows from the processor and the controls is the same in both
pub same_view : {X : Type 0} {st : Stain} {s t : Machine} (F : Processor → List ℕ → List ℕ → List ℕ → List ℕ → X) → Alike st s t
    → F s.processor s.first.control s.second.control s.third.control s.fourth.control
    ≡ F t.processor t.first.control t.second.control t.third.control t.fourth.control
same_view {X} {st} {s} {t} F h =
    ap (λ (p : Processor). F p s.first.control s.second.control s.third.control s.fourth.control) h.processor
    ∙ ap (λ (c : List ℕ). F t.processor c s.second.control s.third.control s.fourth.control) h.first
    ∙ ap (λ (c : List ℕ). F t.processor t.first.control c s.third.control s.fourth.control) h.second
    ∙ ap (λ (c : List ℕ). F t.processor t.first.control t.second.control c s.fourth.control) h.third
    ∙ ap (λ (c : List ℕ). F t.processor t.first.control t.second.control t.third.control c) h.fourth

pub alike_processor : {st : Stain} {s t : Machine} (p q : Processor) → p ≡ q → Alike st s t → Alike st (with_processor p s) (with_processor q t)
alike_processor p q e h = record { processor = e; first = h.first; second = h.second; third = h.third; fourth = h.fourth; cores = h.cores }

pub alike_change : {st : Stain} {s t : Machine} (f : Processor → Processor) → Alike st s t → Alike st (with_processor (f s.processor) s) (with_processor (f t.processor) t)
alike_change f h = alike_processor _ _ (ap f h.processor) h

pub alike_core : {st st' : Stain} {s t : Machine} (c d : List ℕ) → Alike st s t → Cores st' c d → Alike st' (with_core c s) (with_core d t)
alike_core c d h k = record { processor = h.processor; first = h.first; second = h.second; third = h.third; fourth = h.fourth; cores = k }

pub alike_dev : {st : Stain} {s t : Machine} (p : Position) (d e : Dev) → d.control ≡ e.control → Alike st s t → Alike st (with_dev p d s) (with_dev p e t)
alike_dev First d e k h = record { processor = h.processor; first = k; second = h.second; third = h.third; fourth = h.fourth; cores = h.cores }
alike_dev Second d e k h = record { processor = h.processor; first = h.first; second = k; third = h.third; fourth = h.fourth; cores = h.cores }
alike_dev Third d e k h = record { processor = h.processor; first = h.first; second = h.second; third = k; fourth = h.fourth; cores = h.cores }
alike_dev Fourth d e k h = record { processor = h.processor; first = h.first; second = h.second; third = h.third; fourth = k; cores = h.cores }

-- a change of the processor alone
pub change_kept : (f : Processor → Processor) → Kept (λ s. quiet (with_processor (f s.processor) s))
change_kept f st s t h cl = record { events = refl; alike = alike_change f h }

pub raise_alike : {st : Stain} {s t : Machine} (f : Fault) → Alike st s t → Alike st (raise f s) (raise f t)
unfolding raise
raise_alike f h = alike_change (faulted f) h

-- calls of devices: what control is after one follows from what it was before
pub calling_kept : (m : Makes) (p : Position) (c : Call) → Kept (calling m p c)
unfolding calling
calling_kept m p c st s t h cl = record {
  events = refl;
  alike = alike_dev p (made (make_at p m) c (dev_at p s)) (made (make_at p m) c (dev_at p t)) (ap (control_after (make_at p m) c) (control_at p h)) h;
}

pub calling_both : (m : Makes) (p : Position) (c d : Call) → c ≡ d → Both (calling m p c) (calling m p d)
calling_both m p c d e = subst (λ (x : Call). Both (calling m p c) (calling m p x)) e (calling_kept m p c)

pub calling_all_kept : (m : Makes) (c : Call) → Kept (calling_all m c)
calling_all_kept m c =
    kept_then {f = λ s. calling m First c s then calling m Second c then calling m Third c} {g = λ s. calling m First c s then calling m Second c then calling m Third c} {h = calling m Fourth c} {k = calling m Fourth c}
    (kept_then {f = λ s. calling m First c s then calling m Second c} {g = λ s. calling m First c s then calling m Second c} {h = calling m Third c} {k = calling m Third c}
    (kept_then {f = calling m First c} {g = calling m First c} {h = calling m Second c} {k = calling m Second c} (calling_kept m First c) (calling_kept m Second c)) (calling_kept m Third c)) (calling_kept m Fourth c)

pub tell_kept : (m : Makes) (f : Counts → Counts) → Kept (tell m f)
unfolding tell
tell_kept m f st s t h cl =
    calling_all_kept m passed st (counted f s) (counted f t) (alike_change (λ p. counted_processor f p) h) cl
  where
    counted_processor : (Counts → Counts) → Processor → Processor
    counted_processor f p = Rattle.engine.specs.Machine.with_tally (with_counts (f p.tally.counts) p.tally) p

-- references to core
pub same_place : {st : Stain} {s t : Machine} (a : ℕ) → Alike st s t → place a s ≡ place a t
same_place a h = ap (λ (n : ℕ). a % n) h.cores.size

-- a word that is not stained is the same in both
pub same_word : {st : Stain} {s t : Machine} (a : ℕ) → Alike st s t → st (place a s) ≡ false → word_in a s ≡ word_in a t
same_word {st} {s} {t} a h e = h.cores.same (place a s) e ∙ ap (λ (x : ℕ). get_or t.core x 0) (same_place a h)

pub same_data : {st : Stain} {s t : Machine} (a : ℕ) → Alike st s t → st (place a s) ≡ false → data_in a s ≡ data_in a t
same_data a h e = ap data_of (same_word a h e)

parity_alike : {st : Stain} {s t : Machine} (b : Bool) (by : By) (a : ℕ) → Alike st s t → Alike st (parity_checked b by a s) (parity_checked b by a t)
parity_alike true by a h = h
parity_alike false by a h = raise_alike (fault_of by (parity_cause by) a) h

store_both : {st : Stain} {s t : Machine} (b : Bool) (by : By) (a w : ℕ) → is_protected (get_or s.core a 0) ≡ b → Alike st s t
    → Same st (checked_store b by a w (stored_at a) s) (checked_store b by a w (stored_at a) t)
store_both true by a w k h = record { events = refl; alike = raise_alike (fault_of by (protect_cause by) a) h }
store_both {st} {s} {t} false by a w k h = record {
  events = refl;
  alike = alike_core _ _ h (own_cores a _ _ (ap (λ (p : Bool). word_of (data_of w) p) (same_bit h.cores a)) h.cores);
}

bring_both : {st : Stain} {s t : Machine} (b : Bool) (by : By) (a v w : ℕ) → is_protected (get_or s.core a 0) ≡ b → Alike st s t
    → Same st (checked_store b by a v (brought_to a) s) (checked_store b by a w (brought_to a) t)
bring_both true by a v w k h = record { events = refl; alike = raise_alike (fault_of by (protect_cause by) a) h }
bring_both {st} {s} {t} false by a v w k h = record {
  events = refl;
  alike = alike_core _ _ h (device_cores a _ _
      (made_protected v _ ∙ k, made_right v _)
      (made_protected w _ ∙ sym (same_bit h.cores a) ∙ k, made_right w _) h.cores);
}

mark_both : {st : Stain} {s t : Machine} (b : Bool) (a : ℕ) (on : Bool) (w : ℕ) → Alike st s t → Same st (marked b a on w s) (marked b a on w t)
mark_both true a on w h = record { events = refl; alike = alike_core _ _ h (own_cores a _ _ refl h.cores) }
mark_both false a on w h = record { events = refl; alike = h }

-- a reading, of a word that is not stained
pub reading_kept : (by : By) (a : ℕ) → Kept (refer by (reading a))
unfolding refer
reading_kept by a st s t h cl = record {
  events = ap (λ (x : ℕ). read_from x ∷ []) (same_place a h);
  alike = subst (λ (x : Machine). Alike st (parity_checked (parity_right (word_in a s)) by (place a s) s) x) other
      (parity_alike (parity_right (word_in a s)) by (place a s) h);
}
  where
    other : parity_checked (parity_right (word_in a s)) by (place a s) t ≡ parity_checked (parity_right (word_in a t)) by (place a t) t
    other = ap₂ (λ (w x : ℕ). parity_checked (parity_right w) by x t) (same_word a h cl.0) (same_place a h)

pub storing_kept : (by : By) (a w : ℕ) → Kept (refer by (storing a w))
unfolding refer
storing_kept by a w st s t h cl = subst (λ (x : Did). Same st (checked_store (is_protected (word_in a s)) by (place a s) w (stored_at (place a s)) s) x) other
    (store_both (is_protected (word_in a s)) by (place a s) w refl h)
  where
    bit : is_protected (word_in a s) ≡ is_protected (word_in a t)
    bit = same_bit h.cores (place a s) ∙ ap (λ (x : ℕ). is_protected (get_or t.core x 0)) (same_place a h)

    other : checked_store (is_protected (word_in a s)) by (place a s) w (stored_at (place a s)) t ≡ checked_store (is_protected (word_in a t)) by (place a t) w (stored_at (place a t)) t
    other = ap₂ (λ (b : Bool) (x : ℕ). checked_store b by x w (stored_at x) t) bit (same_place a h)

-- a word of a device is stored, and need not be the same in both
pub bringing_both : (by : By) (a v w : ℕ) → Both (refer by (bringing a v)) (refer by (bringing a w))
unfolding refer
bringing_both by a v w st s t h cl = subst (λ (x : Did). Same st (checked_store (is_protected (word_in a s)) by (place a s) v (brought_to (place a s)) s) x) other
    (bring_both (is_protected (word_in a s)) by (place a s) v w refl h)
  where
    bit : is_protected (word_in a s) ≡ is_protected (word_in a t)
    bit = same_bit h.cores (place a s) ∙ ap (λ (x : ℕ). is_protected (get_or t.core x 0)) (same_place a h)

    other : checked_store (is_protected (word_in a s)) by (place a s) w (brought_to (place a s)) t ≡ checked_store (is_protected (word_in a t)) by (place a t) w (brought_to (place a t)) t
    other = ap₂ (λ (b : Bool) (x : ℕ). checked_store b by x w (brought_to x) t) bit (same_place a h)

pub marking_kept : (by : By) (a : ℕ) (on : Bool) (w : ℕ) → Kept (refer by (marking a on w))
unfolding refer
marking_kept by a on w st s t h cl = subst (λ (x : Did). Same st (marked s.processor.books.switches.write_protect (place a s) on w s) x) other
    (mark_both s.processor.books.switches.write_protect (place a s) on w h)
  where
    other : marked s.processor.books.switches.write_protect (place a s) on w t ≡ marked t.processor.books.switches.write_protect (place a t) on w t
    other = ap₂ (λ (p : Processor) (x : ℕ). marked p.books.switches.write_protect x on w t) h.processor (same_place a h)

pub refer_kept : (by : By) (r : Reference) → Kept (refer by r)
refer_kept by (reading a) = reading_kept by a
refer_kept by (storing a w) = storing_kept by a w
refer_kept by (bringing a w) = bringing_both by a w w
refer_kept by (marking a on w) = marking_kept by a on w

-- after a reading, the address that was read is not stained
pub read_unstained : (by : By) (a : ℕ) (st : Stain) (s : Machine) → ReadsNoStain st (refer by (reading a) s).events → st (place a s) ≡ false
unfolding refer
read_unstained by a st s cl = cl.0
