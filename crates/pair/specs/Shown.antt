-- The pair of two lawful makes is lawful. There is nothing here to believe: the checker reads it.
use Rattle.std.specs.Prelude.{◌≡◌, ℕ, ◌+◌, ◌<◌, Bool, true, false, cond, ◌||◌, List, ◌++◌, length, Some, None, Option, refl}
use Rattle.std.proofs.Common.{sym, ap, subst, ◌∙◌, true≢false, ⊎_elim, arith, length-append}
use Rattle.std.proofs.Math.Seq.{take-append_seam, drop-append_seam}
use Rattle.std.proofs.lemmas.Bool.{cases_Bool, or_cases, or_left, or_right}
use Rattle.device.specs.Meaning.{Meaning}
use Rattle.device.specs.Calls.{command_control, sense_control, put_control, get_place, get_control, bring_place, bring_control, take_control, how_many}
use Rattle.device.specs.Laws.{Keeps, Lawful}
use Rattle.device.proofs.Keeping.{Parts, ChannelParts, lawful_by, channel_lawful_by}
use Rattle.pair.specs.Pairs.{joined, first_of, second_of, behind, calls, by_area, by_work, pair, pair_channel}

-- the two controls come apart again
pub first_joined : (xs ys : List ℕ) → first_of (joined xs ys) ≡ xs
unfolding first_of
first_joined xs ys = take-append_seam xs ys

pub second_joined : (xs ys : List ℕ) → second_of (joined xs ys) ≡ ys
unfolding second_of
second_joined xs ys = drop-append_seam xs ys

-- a place behind others
same_count : (n : ℕ) (o : Option ℕ) → how_many (behind n o) ≡ how_many o
same_count n None = refl
same_count n (Some p) = refl

split : (n p : ℕ) (o : Option ℕ) → behind n o ≡ Some p → (q : ℕ) × ((o ≡ Some q) × (n + q ≡ p))
split n p None e = absurd cc
split n p (Some q) e = (q, (refl, cc))

module _ (a b : Meaning) where
  -- a call of the first, of the second, or of both keeps what it keeps of each
  to_first : (n : ℕ) (c x : List ℕ) → Keeps a n (first_of c) x → Keeps (pair a b) n c (joined x (second_of c))
  to_first n c x k =
      let f = first_joined x (second_of c) in
      let s = second_joined x (second_of c) in
      record {
        areas = λ area. simp (f, s, k.areas area);
        codes = λ area function. simp (by_area, f, s, k.areas area, k.codes area function);
        words = simp (f, s) (let w = k.words in omega arith);
      }

  to_second : (n : ℕ) (c y : List ℕ) → Keeps b n (second_of c) y → Keeps (pair a b) n c (joined (first_of c) y)
  to_second n c y k =
      let f = first_joined (first_of c) y in
      let s = second_joined (first_of c) y in
      record {
        areas = λ area. simp (f, s, k.areas area);
        codes = λ area function. simp (by_area, f, s, k.codes area function);
        words = simp (f, s) (let w = k.words in omega arith);
      }

  to_both : (c x y : List ℕ) → Keeps a 0 (first_of c) x → Keeps b 0 (second_of c) y → Keeps (pair a b) 0 c (joined x y)
  to_both c x y k l =
      let f = first_joined x y in
      let s = second_joined x y in
      record {
        areas = λ area. simp (f, s, k.areas area, l.areas area);
        codes = λ area function. simp (by_area, f, s, k.areas area, k.codes area function, l.codes area function);
        words = simp (f, s) (let v = k.words in let w = l.words in omega arith);
      }

  to_one : (t : Bool) (n : ℕ) (c : List ℕ) (f g : List ℕ → List ℕ) → Keeps a n (first_of c) (f (first_of c)) → Keeps b n (second_of c) (g (second_of c)) → Keeps (pair a b) n c (calls t f g c)
  to_one true n c f g k l = to_first n c (f (first_of c)) k
  to_one false n c f g k l = to_second n c (g (second_of c)) l

module _ (a b : Meaning) (la : Lawful a) (lb : Lawful b) where
  own_by : (t : Bool) (c : List ℕ) (area function : ℕ) → a.answers (first_of c) area ≡ t
      → cond t (a.takes (first_of c) area function) (b.takes (second_of c) area function) ≡ true
      → (a.answers (first_of c) area || b.answers (second_of c) area) ≡ true
  own_by true c area function e h = or_left _ _ e
  own_by false c area function e h = or_right _ _ (lb.own (second_of c) area function h)

  within_by : (t : Bool) (c : List ℕ) (x y : Option ℕ) (p : ℕ)
      → ((q : ℕ) → x ≡ Some q → q < a.left (first_of c)) → ((q : ℕ) → y ≡ Some q → q < b.left (second_of c))
      → cond t x (behind (a.left (first_of c)) y) ≡ Some p → p < a.left (first_of c) + b.left (second_of c)
  within_by true c x y p f g e = let h = f p e in omega arith
  within_by false c x y p f g e = let s = split (a.left (first_of c)) p y e in let h = g s.0 s.1.0 in let i = s.1.1 in omega arith

  shows_by : (t : Bool) (c : List ℕ) (area : ℕ)
      → cond t (a.raised (first_of c) area) (b.raised (second_of c) area) ≡ true
      → ((a.answers (first_of c) area || b.answers (second_of c) area) ≡ true) × ((a.line (first_of c) || b.line (second_of c)) ≡ true)
  shows_by true c area h = let s = la.shows (first_of c) area h in (or_left _ _ s.0, or_left _ _ s.1)
  shows_by false c area h = let s = lb.shows (second_of c) area h in (or_right _ _ s.0, or_right _ _ s.1)

  -- after sense with the last bit of the modifier on, an area is not raised, whether it is the device's own or not
  sensed_off : (m : Meaning) (l : Lawful m) (c : List ℕ) (area : ℕ) → m.raised (sense_control m c area 1) area ≡ false
  sensed_off m l c area = ⊎_elim on off (cases_Bool (m.answers c area))
    where
      on : m.answers c area ≡ true → m.raised (sense_control m c area 1) area ≡ false
      on e = simp e (l.off c area)

      not_raised : (r : Bool) → m.raised c area ≡ r → m.answers c area ≡ false → m.raised c area ≡ false
      not_raised true h e = let s = l.shows c area h in let z : true ≡ false = sym s.0 ∙ e in absurd (true≢false z)
      not_raised false h e = h

      off : m.answers c area ≡ false → m.raised (sense_control m c area 1) area ≡ false
      off e = simp e (not_raised (m.raised c area) refl e)

  off_by : (t : Bool) (c : List ℕ) (area : ℕ) → a.answers (first_of c) area ≡ t
      → (pair a b).raised (calls t (λ x. sense_control a x area 1) (λ y. sense_control b y area 1) c) area ≡ false
  off_by true c area e =
      let x = sense_control a (first_of c) area 1 in
      let k : a.answers x area ≡ true = (la.sense (first_of c) area 1).areas area ∙ e in
      simp (by_area, first_joined x (second_of c), k) (sensed_off a la (first_of c) area)
  off_by false c area e =
      let y = sense_control b (second_of c) area 1 in
      simp (by_area, first_joined (first_of c) y, second_joined (first_of c) y, e) (sensed_off b lb (second_of c) area)

  got_by : (t : Bool) (c : List ℕ) (area p : ℕ)
      → cond t (get_place a (first_of c) area) (behind (a.left (first_of c)) (get_place b (second_of c) area)) ≡ Some p
      → Keeps (pair a b) 1 c (calls t (λ x. get_control a x area) (λ y. get_control b y area) c)
  got_by true c area p e =
      to_first a b 1 c (get_control a (first_of c) area)
      (subst (λ (n : ℕ). Keeps a n (first_of c) (get_control a (first_of c) area)) (ap how_many e) (la.get (first_of c) area))
  got_by false c area p e =
      to_second a b 1 c (get_control b (second_of c) area)
      (subst (λ (n : ℕ). Keeps b n (second_of c) (get_control b (second_of c) area)) (sym (same_count _ (get_place b (second_of c) area)) ∙ ap how_many e) (lb.get (second_of c) area))

  parts : Parts (pair a b)
  parts = record {
    range = λ c area e. ⊎_elim (la.range (first_of c) area) (lb.range (second_of c) area) (or_cases _ _ e);
    own = λ c area function e. own_by (a.answers (first_of c) area) c area function refl e;
    within = λ c area p e. within_by (a.answers (first_of c) area) c _ _ p (la.within (first_of c) area) (lb.within (second_of c) area) e;
    shows = λ c area e. shows_by (a.answers (first_of c) area) c area e;
    off = λ c area. off_by (a.answers (first_of c) area) c area refl;
    rests = λ c. simp (first_joined (a.reset (first_of c)) (b.reset (second_of c)), second_joined (a.reset (first_of c)) (b.reset (second_of c)), la.rests (first_of c), lb.rests (second_of c));
    commanded = λ c area function modifier. to_one a b (a.answers (first_of c) area) 0 c (λ x. command_control a x area function modifier) (λ y. command_control b y area function modifier) (la.command (first_of c) area function modifier) (lb.command (second_of c) area function modifier);
    line_off = λ c area. to_one a b (a.answers (first_of c) area) 0 c (λ x. sense_control a x area 1) (λ y. sense_control b y area 1) (la.sense (first_of c) area 1) (lb.sense (second_of c) area 1);
    put = λ c area word. to_one a b (a.answers (first_of c) area) 0 c (λ x. put_control a x area word) (λ y. put_control b y area word) (la.put (first_of c) area word) (lb.put (second_of c) area word);
    got = λ c area p e. got_by (a.answers (first_of c) area) c area p e;
    passed = λ c. to_both a b c _ _ (la.passed (first_of c)) (lb.passed (second_of c));
    reset = λ c. to_both a b c _ _ (la.reset (first_of c)) (lb.reset (second_of c));
  }

  brought_by : (t : Bool) (c : List ℕ) → Keeps (pair a b) (how_many (cond t (bring_place a.channel (first_of c)) (behind (a.left (first_of c)) (bring_place b.channel (second_of c))))) c (calls t (bring_control a.channel) (bring_control b.channel) c)
  brought_by true c = to_first a b _ c (bring_control a.channel (first_of c)) (la.channel.bring (first_of c))
  brought_by false c =
      to_second a b _ c (bring_control b.channel (second_of c))
      (subst (λ (n : ℕ). Keeps b n (second_of c) (bring_control b.channel (second_of c))) (sym (same_count _ (bring_place b.channel (second_of c)))) (lb.channel.bring (second_of c)))

  channel_parts : ChannelParts (pair a b) (pair_channel a b)
  channel_parts = record {
    within = λ c p s e. within_by (by_work a b c) c _ _ p (la.channel.within (first_of c)) (lb.channel.within (second_of c)) e;
    brought = λ c s. brought_by (by_work a b c) c;
    taken = λ c word s. to_one a b (by_work a b c) 0 c (λ x. take_control a.channel x word) (λ y. take_control b.channel y word) (la.channel.take (first_of c) word) (lb.channel.take (second_of c) word);
    finished = λ c go_on tell. to_one a b (by_work a b c) 0 c (λ x. a.channel.finished x go_on tell) (λ y. b.channel.finished y go_on tell) (la.channel.finish (first_of c) go_on tell) (lb.channel.finish (second_of c) go_on tell);
  }

  pub pair_lawful : Lawful (pair a b)
  pair_lawful = lawful_by (pair a b) parts (channel_lawful_by (pair a b) (pair_channel a b) channel_parts)

-- the words of both number what both controls tell
pub pair_numbered : (a b : Meaning) (c d v w : List ℕ) → length v ≡ a.left c → length w ≡ b.left d → length (v ++ w) ≡ (pair a b).left (joined c d)
pair_numbered a b c d v w e f = length-append v w ∙ simp (first_joined c d, second_joined c d) (let x = e in let y = f in omega arith)
