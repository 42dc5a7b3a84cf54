-- Where a word of a pair stands, and what get and bring leave.
use Rattle.std.proofs.Common.{◌≡◌, ℕ, ◌+◌, ◌<◌, ◌≤◌, Bool, true, false, cond, not, ◌||◌, List, ◌++◌, length, Some, None, Option, sym, refl, ap, ◌∙◌, append_assoc, arith}
use Rattle.std.proofs.lemmas.List.{get_or_append_left, get_or-append-add}
use lib.Seq.{take-append-le, drop-append-le, take-append-add, drop-append-add}
use Rattle.device.specs.declared.answer.Asking.{Asking}
use Rattle.device.specs.declared.answer.Asking.TheVariants.{Nothing, Bring, Take}
use Rattle.device.specs.Meaning.{Meaning}
use Rattle.device.specs.Calls.{word_at, removed, get_place, get_control, when_there, bring_place, bring_control, when_brings}
use Rattle.device.specs.Laws.{Lawful}
use Rattle.pair.specs.Pairs.{joined, behind, by_area, by_work, calls, pair, pair_channel}
use Rattle.pair.specs.Shown.{first_joined, second_joined}

-- a place in the first's words, and one behind them
module _ (v w : List ℕ) where
  pub front_word : (o : Option ℕ) → ((p : ℕ) → o ≡ Some p → p < length v) → word_at o (v ++ w) ≡ word_at o v
  front_word None f = refl
  front_word (Some p) f = get_or_append_left v w 0 p (f p refl)

  pub front_removed : (o : Option ℕ) → ((p : ℕ) → o ≡ Some p → p < length v) → removed o (v ++ w) ≡ removed o v ++ w
  front_removed None f = refl
  front_removed (Some p) f =
      let h = f p refl in
      let x : p ≤ length v = omega arith in
      let y : 1 + p ≤ length v = omega arith in
      rw (take-append-le p v w x, drop-append-le (1 + p) v w y, append_assoc)

  pub behind_word : (o : Option ℕ) → word_at (behind (length v) o) (v ++ w) ≡ word_at o w
  behind_word None = refl
  behind_word (Some p) = get_or-append-add v w p 0

  pub behind_removed : (o : Option ℕ) → removed (behind (length v) o) (v ++ w) ≡ v ++ removed o w
  behind_removed None = refl
  behind_removed (Some p) =
      let e : 1 + (length v + p) ≡ length v + (1 + p) = omega arith in
      rw (take-append-add v w p, e, drop-append-add v w (1 + p), append_assoc)

-- what is done only where there is a place, or only where a word is asked for, is done once
there_first : (o : Option ℕ) (x c d : List ℕ) → when_there o (joined (when_there o x c) d) (joined c d) ≡ joined (when_there o x c) d
there_first None x c d = refl
there_first (Some p) x c d = refl

there_second : (n : ℕ) (o : Option ℕ) (y c d : List ℕ) → when_there (behind n o) (joined c (when_there o y d)) (joined c d) ≡ joined c (when_there o y d)
there_second n None y c d = refl
there_second n (Some p) y c d = refl

brings_first : (q : Asking) (x c d : List ℕ) → when_brings q (joined (when_brings q x c) d) (joined c d) ≡ joined (when_brings q x c) d
brings_first Nothing x c d = refl
brings_first Bring x c d = refl
brings_first Take x c d = refl

brings_second : (q : Asking) (y c d : List ℕ) → when_brings q (joined c (when_brings q y d)) (joined c d) ≡ joined c (when_brings q y d)
brings_second Nothing y c d = refl
brings_second Bring y c d = refl
brings_second Take y c d = refl

brings_place : (q : Asking) (o : Option ℕ) → when_brings q (when_brings q o None) None ≡ when_brings q o None
brings_place Nothing o = refl
brings_place Bring o = refl
brings_place Take o = refl

brings_behind : (n : ℕ) (q : Asking) (o : Option ℕ) → when_brings q (behind n (when_brings q o None)) None ≡ behind n (when_brings q o None)
brings_behind n Nothing o = refl
brings_behind n Bring o = refl
brings_behind n Take o = refl

answers_behind : (n : ℕ) (b : Bool) (o : Option ℕ) → cond b (behind n (cond b o None)) None ≡ behind n (cond b o None)
answers_behind n true o = refl
answers_behind n false o = refl

module _ (a b : Meaning) (c d : List ℕ) where
  -- get, for an area of the first or not
  module _ (area : ℕ) where
    pub got_first : a.answers c area ≡ true → get_place (pair a b) (joined c d) area ≡ get_place a c area
    got_first e = simp (by_area, first_joined c d, e)

    pub got_second : a.answers c area ≡ false → get_place (pair a b) (joined c d) area ≡ behind (a.left c) (get_place b d area)
    got_second e = simp (by_area, first_joined c d, second_joined c d, e) (answers_behind (a.left c) (b.answers d area) (b.place d area))

    pub get_first : a.answers c area ≡ true → get_control (pair a b) (joined c d) area ≡ joined (get_control a c area) d
    get_first e =
        ap (λ (o : Option ℕ). when_there o ((pair a b).got (joined c d) area) (joined c d)) (got_first e)
        ∙ simp (by_area, calls, first_joined c d, second_joined c d, e) (there_first (a.place c area) (a.got c area) c d)

    pub get_second : a.answers c area ≡ false → get_control (pair a b) (joined c d) area ≡ joined c (get_control b d area)
    get_second e =
        ap (λ (o : Option ℕ). when_there o ((pair a b).got (joined c d) area) (joined c d)) (got_second e)
        ∙ simp (by_area, calls, first_joined c d, second_joined c d, e) (there_second (a.left c) (get_place b d area) (b.got d area) c d)

  -- bring, where the first works or not
  pub place_first : (a.operating c || not (b.operating d)) ≡ true → bring_place (pair_channel a b) (joined c d) ≡ bring_place a.channel c
  place_first e = simp (by_work, first_joined c d, second_joined c d, e) (brings_place (a.channel.asks c) (a.channel.place c))

  pub place_second : (a.operating c || not (b.operating d)) ≡ false → bring_place (pair_channel a b) (joined c d) ≡ behind (a.left c) (bring_place b.channel d)
  place_second e = simp (by_work, first_joined c d, second_joined c d, e) (brings_behind (a.left c) (b.channel.asks d) (b.channel.place d))

  pub bring_first : (a.operating c || not (b.operating d)) ≡ true → bring_control (pair_channel a b) (joined c d) ≡ joined (bring_control a.channel c) d
  bring_first e = simp (by_work, calls, first_joined c d, second_joined c d, e) (brings_first (a.channel.asks c) (a.channel.brought c) c d)

  pub bring_second : (a.operating c || not (b.operating d)) ≡ false → bring_control (pair_channel a b) (joined c d) ≡ joined c (bring_control b.channel d)
  bring_second e = simp (by_work, calls, first_joined c d, second_joined c d, e) (brings_second (b.channel.asks d) (b.channel.brought d) c d)

-- The place o of the first's words, or of the second's, in the words of both: what stands there, and the words without it.
module _ (v w : List ℕ) (o q : Option ℕ) where
  pub word_first : q ≡ o → ((p : ℕ) → o ≡ Some p → p < length v) → word_at o v ≡ word_at q (v ++ w)
  word_first e f = sym (ap (λ (x : Option ℕ). word_at x (v ++ w)) e ∙ front_word v w o f)

  pub words_first : q ≡ o → ((p : ℕ) → o ≡ Some p → p < length v) → removed o v ++ w ≡ removed q (v ++ w)
  words_first e f = sym (ap (λ (x : Option ℕ). removed x (v ++ w)) e ∙ front_removed v w o f)

  pub word_second : (n : ℕ) → length v ≡ n → q ≡ behind n o → word_at o w ≡ word_at q (v ++ w)
  word_second n l e = sym (ap (λ (x : Option ℕ). word_at x (v ++ w)) (e ∙ ap (λ (k : ℕ). behind k o) (sym l)) ∙ behind_word v w o)

  pub words_second : (n : ℕ) → length v ≡ n → q ≡ behind n o → v ++ removed o w ≡ removed q (v ++ w)
  words_second n l e = sym (ap (λ (x : Option ℕ). removed x (v ++ w)) (e ∙ ap (λ (k : ℕ). behind k o) (sym l)) ∙ behind_removed v w o)

-- The word that get and bring take from the first of two lawful makes, and the words without it. The law that a place is within the
-- words is what a call of the first needs besides.
module _ (a b : Meaning) (l : Lawful a) (c d v w : List ℕ) (n : length v ≡ a.left c) where
  module _ (area : ℕ) (e : a.answers c area ≡ true) where
    got_within : (p : ℕ) → get_place a c area ≡ Some p → p < length v
    got_within p h = omega (arith, l.within c area p h)

    pub got_word : word_at (get_place a c area) v ≡ word_at (get_place (pair a b) (joined c d) area) (v ++ w)
    got_word = word_first v w _ _ (got_first a b c d area e) got_within

    pub got_words : removed (get_place a c area) v ++ w ≡ removed (get_place (pair a b) (joined c d) area) (v ++ w)
    got_words = words_first v w _ _ (got_first a b c d area e) got_within

  module _ (e : (a.operating c || not (b.operating d)) ≡ true) where
    brought_within : (p : ℕ) → bring_place a.channel c ≡ Some p → p < length v
    brought_within p h = omega (arith, l.channel.within c p h)

    pub brought_word : word_at (bring_place a.channel c) v ≡ word_at (bring_place (pair_channel a b) (joined c d)) (v ++ w)
    brought_word = word_first v w _ _ (place_first a b c d e) brought_within

    pub brought_words : removed (bring_place a.channel c) v ++ w ≡ removed (bring_place (pair_channel a b) (joined c d)) (v ++ w)
    brought_words = words_first v w _ _ (place_first a b c d e) brought_within
