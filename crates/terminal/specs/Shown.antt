-- What a make that is a terminal has to show of its meaning, shown but for what is its own. There is nothing here to believe: the checker reads it.
use Rattle.std.specs.Prelude.{◌≡◌, ℕ, zero, suc, ◌+◌, ◌<◌, ◌≤◌, Bool, true, false, cond, ◌&&◌, List, [], ◌∷◌, Some, Option, ◌==◌, nat_lt, slice_index, slice_set, refl}
use Rattle.std.proofs.Common.{sym, ap, ◌∙◌, add-zero, arith, get_or-set_other, ltb-true}
use Rattle.std.proofs.lemmas.Bool.{and_parts, and_right}
use Rattle.device.specs.Calls.{how_many}
use Rattle.device.specs.Laws.{Keeps, Lawful}
use Rattle.device.proofs.Keeping.{Parts, ChannelParts, lawful_by, channel_lawful_by, keeps_same, keeps_then}
use Rattle.terminal.specs.Setups.{area_fits}
use Rattle.terminal.specs.Terminals.{Own, Apart, terminal, terminal_channel, answers, area_of, operates, line_on, with_line, with_wait, with_operating, reset, used, finished}

-- a number of control that is lowered so far stands there, also where control is too short to have it, since that reads as 0
pub lowered : (c : List ℕ) (k v : ℕ) → v ≤ slice_index c k → slice_index (slice_set c k v) k ≡ v
lowered [] k v h = omega arith
lowered (x ∷ xs) zero v h = refl
lowered (x ∷ xs) (suc k) v h = lowered xs k v h

module _ (own : Own) (a : Apart own) where
  keeps_by : (n : ℕ) (c d : List ℕ) → area_of d ≡ area_of c → own.left d + n ≡ own.left c → Keeps (terminal own) n c d
  keeps_by n c d e l = record {
    areas = λ area. ap (λ (x : ℕ). area_fits area && area == x) e;
    codes = λ area function. ap (λ (x : ℕ). (area_fits area && area == x) && own.codes function) e;
    words = l;
  }

  sets : (c : List ℕ) (k v : ℕ) → 0 < k → k < 5 → Keeps (terminal own) 0 c (slice_set c k v)
  sets c k v e h = keeps_by 0 c (slice_set c k v) (get_or-set_other c k 0 v 0 (omega arith)) (add-zero _ ∙ a.left c k v h)

  uses : (c : List ℕ) → Keeps (terminal own) 0 c (used c)
  uses c = sets c 3 _ (omega arith) (omega arith)

  goes : (c : List ℕ) → Keeps (terminal own) (how_many (own.place c)) c (own.gone c)
  goes c = keeps_by _ c (own.gone c) (a.gone_area c) (a.gone_left c)

  hands : (c : List ℕ) (word : ℕ) → Keeps (terminal own) 0 c (own.handed c word)
  hands c word = keeps_by 0 c (own.handed c word) (a.handed_area c word) (add-zero _ ∙ a.handed_left c word)

  stops : (c : List ℕ) → Keeps (terminal own) 0 c (with_operating false c)
  stops c = sets c 2 0 (omega arith) (omega arith)

  starts : (c : List ℕ) → Keeps (terminal own) 0 c (with_wait 0 (with_operating true c))
  starts c = keeps_then c (with_operating true c) _ (sets c 2 1 (omega arith) (omega arith)) (sets (with_operating true c) 3 0 (omega arith) (omega arith))

  obeys : (s e : Bool) (c : List ℕ) → Keeps (terminal own) 0 c (cond s (with_wait 0 (with_operating true c)) (cond e (with_operating false c) c))
  obeys true e c = starts c
  obeys false true c = stops c
  obeys false false c = keeps_same

  rests : (c : List ℕ) → Keeps (terminal own) 0 c (reset c)
  rests c =
      keeps_then c (with_wait 0 (with_operating false c)) _
      (keeps_then c (with_operating false c) _ (stops c) (sets (with_operating false c) 3 0 (omega arith) (omega arith)))
      (sets (with_wait 0 (with_operating false c)) 4 0 (omega arith) (omega arith))

  finishes : (c : List ℕ) (go_on tell : Bool) → Keeps (terminal own) 0 c (finished c go_on tell)
  finishes c true true = sets c 4 1 (omega arith) (omega arith)
  finishes c true false = keeps_same
  finishes c false true = keeps_then c (with_operating false c) _ (stops c) (sets (with_operating false c) 4 1 (omega arith) (omega arith))
  finishes c false false = stops c

  at_rest : (c : List ℕ) → operates (reset c) ≡ false
  at_rest c =
      let e : slice_index (reset c) 2 ≡ 0 =
      get_or-set_other (with_wait 0 (with_operating false c)) 4 2 0 0 (omega arith) ∙ get_or-set_other (with_operating false c) 3 2 0 0 (omega arith)
      ∙ lowered c 2 0 (omega arith)
      in ap (λ (n : ℕ). n == 1) e

  one : (c : List ℕ) (p : ℕ) → own.place c ≡ Some p → Keeps (terminal own) 1 c (own.gone c)
  one c p e = let k = goes c in record { areas = k.areas; codes = k.codes; words = ap (λ (q : Option ℕ). own.left (own.gone c) + how_many q) (sym e) ∙ k.words }

  parts : Parts (terminal own)
  parts = record {
    range = λ c area e.
        let f = and_parts (area_fits area) (area == area_of c) e in
        let g = and_parts (nat_lt 0 area) (nat_lt area 32) f.0 in (ltb-true 0 area g.0, ltb-true area 32 g.1);
    own = λ c area function e. (and_parts (answers c area) (own.codes function) e).0;
    within = λ c area p e. a.within c p e;
    shows = λ c area e. and_parts (answers c area) (line_on c) e;
    off = λ c area. ap (λ (n : ℕ). answers (with_line false c) area && n == 1) (lowered c 4 0 (omega arith)) ∙ and_right (answers (with_line false c) area) false refl;
    rests = at_rest;
    commanded = λ c area function modifier. obeys (function == own.start) (function == 4) c;
    line_off = λ c area. sets c 4 0 (omega arith) (omega arith);
    put = λ c area word. hands c word;
    got = λ c area p e. one c p e;
    passed = λ c. sets c 3 _ (omega arith) (omega arith);
    reset = rests;
  }

  channel_parts : ChannelParts (terminal own) (terminal_channel own)
  channel_parts = record {
    within = λ c p b e. a.within c p e;
    brought = λ c b.
        let k = goes c in
        let u = uses (own.gone c) in
        record { areas = λ x. u.areas x ∙ k.areas x; codes = λ x f. u.codes x f ∙ k.codes x f; words = let p = u.words in let q = k.words in omega arith };
    taken = λ c word t. keeps_then c (own.handed c word) _ (hands c word) (uses (own.handed c word));
    finished = finishes;
  }

  pub terminal_lawful : Lawful (terminal own)
  terminal_lawful = lawful_by (terminal own) parts (channel_lawful_by (terminal own) (terminal_channel own) channel_parts)
