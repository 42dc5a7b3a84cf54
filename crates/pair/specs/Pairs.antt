-- Two channel devices on one channel make a channel device of kind 3. Its words are the words of one and then of the other;
-- its control begins with the length of the first control, then come the two controls.
use Rattle.std.specs.Prelude.{ℕ, ◌+◌, Bool, cond, not, ◌||◌, List, ◌∷◌, ◌++◌, length, take, drop, Some, None, Option, slice_index}
use Rattle.device.specs.Meaning.{Meaning, ChannelMeaning}
use Rattle.device.specs.Calls.{command_control, sense_answer, sense_control, put_control, get_place, get_control, bring_place, bring_control, take_control}

abbrev pub joined : List ℕ → List ℕ → List ℕ
joined first second = length first ∷ (first ++ second)

unfoldable pub first_of : List ℕ → List ℕ
first_of c = take (slice_index c 0) (drop 1 c)

unfoldable pub second_of : List ℕ → List ℕ
second_of c = drop (slice_index c 0) (drop 1 c)

-- a place among the words of the second, of which so many words of the first stand in front
abbrev pub behind : ℕ → Option ℕ → Option ℕ
behind n None = None
behind n (Some p) = Some (n + p)

-- one of the two is called, and the other stays as it is
abbrev pub calls : Bool → (List ℕ → List ℕ) → (List ℕ → List ℕ) → List ℕ → List ℕ
calls to_first f g c = cond to_first (joined (f (first_of c)) (second_of c)) (joined (first_of c) (g (second_of c)))

-- Which of the two is called. A call that names an area is made to the first where it answers to the area, and else to the second;
-- the channel's calls are made to the first, unless it rests while the second operates.
abbrev pub by_area : Meaning → List ℕ → ℕ → Bool
by_area a c area = a.answers (first_of c) area

abbrev pub by_work : Meaning → Meaning → List ℕ → Bool
by_work a b c = a.operating (first_of c) || not (b.operating (second_of c))

abbrev pub pair_channel : Meaning → Meaning → ChannelMeaning
pair_channel a b = record {
  asks = λ c. cond (by_work a b c) (a.channel.asks (first_of c)) (b.channel.asks (second_of c));
  place = λ c. cond (by_work a b c) (bring_place a.channel (first_of c)) (behind (a.left (first_of c)) (bring_place b.channel (second_of c)));
  brought = λ c. calls (by_work a b c) (bring_control a.channel) (bring_control b.channel) c;
  taken = λ c word. calls (by_work a b c) (λ x. take_control a.channel x word) (λ y. take_control b.channel y word) c;
  finished = λ c go_on tell. calls (by_work a b c) (λ x. a.channel.finished x go_on tell) (λ y. b.channel.finished y go_on tell) c;
}

-- Either of the two makes it operate, and raises its line; both are told of a cycle, and both are reset. A function is taken if the
-- one that the area names takes it.
abbrev pub pair : Meaning → Meaning → Meaning
pair a b = record {
  kind = 3;
  left = λ c. a.left (first_of c) + b.left (second_of c);
  answers = λ c area. a.answers (first_of c) area || b.answers (second_of c) area;
  takes = λ c area function. cond (by_area a c area) (a.takes (first_of c) area function) (b.takes (second_of c) area function);
  operating = λ c. a.operating (first_of c) || b.operating (second_of c);
  line = λ c. a.line (first_of c) || b.line (second_of c);
  raised = λ c area. cond (by_area a c area) (a.raised (first_of c) area) (b.raised (second_of c) area);
  commanded = λ c area function modifier.
      calls (by_area a c area) (λ x. command_control a x area function modifier) (λ y. command_control b y area function modifier) c;
  status = λ c area modifier. cond (by_area a c area) (sense_answer a (first_of c) area modifier) (sense_answer b (second_of c) area modifier);
  line_off = λ c area. calls (by_area a c area) (λ x. sense_control a x area 1) (λ y. sense_control b y area 1) c;
  put = λ c area word. calls (by_area a c area) (λ x. put_control a x area word) (λ y. put_control b y area word) c;
  place = λ c area. cond (by_area a c area) (get_place a (first_of c) area) (behind (a.left (first_of c)) (get_place b (second_of c) area));
  got = λ c area. calls (by_area a c area) (λ x. get_control a x area) (λ y. get_control b y area) c;
  passed = λ c. joined (a.passed (first_of c)) (b.passed (second_of c));
  reset = λ c. joined (a.reset (first_of c)) (b.reset (second_of c));
  channel = pair_channel a b;
}
