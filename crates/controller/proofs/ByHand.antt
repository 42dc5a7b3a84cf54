-- I and the words that it names, by the size in the books, which is the length of a core that is lent right.
use Rattle.std.proofs.Common.{◌≡◌, ℕ, ◌%◌, ◌<◌, Bool, true, false, not, List, map, length, get_or, set, Ok, sym, refl, ap, ◌∙◌, length-set, eqb-true}
use Rattle.std.proofs.lemmas.Bool.{and_parts}
use Rattle.refusal.specs.declared.Refusal.TheVariants.{Length, Protected}
use Rattle.storage.specs.Word.{is_protected, stored}
use Rattle.registers.specs.declared.state.Registers.{Registers}
use Rattle.engine.specs.declared.place.By.TheVariants.{Program}
use Rattle.engine.specs.declared.state.Processor.{Processor}
use Rattle.engine.specs.Machine.{Machine, words_of_size, word_in, with_processor, with_core}
use Rattle.engine.specs.Instructions.{advanced}
use Rattle.engine.specs.Step.{lent_right}
use Rattle.engine.specs.Code.{Fits, moved}
use Rattle.engine.proofs.Referring.{store_kept}
use Rattle.controller.specs.declared.call.ClearMode.{ClearMode}
use Rattle.controller.specs.declared.call.ClearMode.TheVariants.{Run as ClearRun, Display as ClearDisplay}
use Rattle.controller.specs.Console.{Done, accepted, only_if, refuse, data_switches, change_i, i_of, next_i, loading, clearing}
use Rattle.controller.specs.Held.{wiped}
use Rattle.controller.proofs.Entering.{Tested}

-- a core that is lent right is as long as the books say
right_parts : (b : Bool) → Tested b Length (Ok tt) → b ≡ true
right_parts true h = refl
right_parts false h = cc

pub fits_by : (s : Machine) → Tested (lent_right s) Length (Ok tt) → Fits s.processor s.core
fits_by s l = eqb-true (length s.core) (words_of_size s.processor.books.size) (and_parts s.processor.books.accepted _ (right_parts (lent_right s) l)).1

module _ (s : Machine) (fits : Fits s.processor s.core) where
  pub i_changed : (f : ℕ → Registers → Registers) (p : Processor) → p ≡ moved (f (words_of_size s.processor.books.size)) s.processor → with_processor p s ≡ change_i f s
  i_changed f p e = ap (λ (q : Processor). with_processor q s) e ∙ ap (λ (n : ℕ). with_processor (moved (f n) s.processor) s) (sym fits)

  pub at_i_word : (x : ℕ) → x ≡ i_of s % words_of_size s.processor.books.size → get_or s.core x 0 ≡ word_in (i_of s) s
  at_i_word x e = ap (λ (n : ℕ). get_or s.core n 0) (e ∙ ap (λ (n : ℕ). i_of s % n) (sym fits))

-- load, of a machine that is stopped
abbrev pub loads : Machine → Done
loads s = only_if (not (is_protected (word_in (i_of s) s))) Protected loading s

module _ (s : Machine) (fits : Fits s.processor s.core) (x : ℕ) (at : x ≡ i_of s % words_of_size s.processor.books.size) where
  by_protection : (b : Bool) → b ≡ is_protected (get_or s.core x 0) → only_if (not b) Protected loading s ≡ loads s
  by_protection b e = ap (λ (y : Bool). only_if (not y) Protected loading s) (e ∙ ap is_protected (at_i_word s fits x at))

  pub load_refused : true ≡ is_protected (get_or s.core x 0) → refuse Protected s ≡ loads s
  load_refused e = by_protection true e

  pub load_taken : false ≡ is_protected (get_or s.core x 0) → loading s ≡ loads s
  load_taken e = by_protection false e

  pub loaded : (v : ℕ) (p : Processor) → data_switches s < 65536 → false ≡ is_protected (get_or s.core x 0) → v ≡ stored (get_or s.core x 0) (data_switches s)
      → p ≡ moved (advanced (words_of_size s.processor.books.size) 1) s.processor → with_processor p (with_core (set s.core x v) s) ≡ (loading s).machine
  loaded v p lt h e m =
      i_changed (with_core (set s.core x v) s) (length-set s.core x v ∙ fits) (λ n. advanced n 1) p m
      ∙ ap (λ (t : Machine). (next_i t).machine)
      (sym (store_kept Program (i_of s) x (data_switches s) v s.processor s.core (at ∙ ap (λ (n : ℕ). i_of s % n) (sym fits)) lt (sym h) e s))

-- clear, of a machine that is stopped
abbrev pub clears : ClearMode → Machine → Done
clears mode s = accepted (clearing mode s.processor.books.switches.write_protect s)

pub core_cleared : (mode : ClearMode) (s : Machine) (v : List ℕ) → v ≡ map (wiped mode s.processor.books.switches) s.core → with_core v s ≡ (clears mode s).machine
core_cleared ClearRun s v e = ap (λ (w : List ℕ). with_core w s) e
core_cleared ClearDisplay s v e = ap (λ (w : List ℕ). with_core w s) e
