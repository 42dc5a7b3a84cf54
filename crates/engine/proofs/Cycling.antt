-- Cycles, from their parts.
use Rattle.std.proofs.Common.{◌≡◌, ℕ, zero, suc, ◌+◌, ◌<◌, [], ◌∷◌, get_or, Some, None, Option, sym, refl, ap, ◌∙◌, arith, true, ◌&&◌, true≢false}
use Rattle.engine.specs.declared.place.By.TheVariants.{Program}
use Rattle.engine.specs.declared.place.ChannelNumber.{ChannelNumber}
use Rattle.engine.specs.declared.place.ChannelNumber.TheVariants.{Channel1, Channel2, Channel3}
use Rattle.engine.specs.Machine.{Machine}
use Rattle.engine.specs.Events.{passed}
use Rattle.engine.specs.Makes.{Makes, calling_all}
use Rattle.engine.specs.Cycle.{Reference, refer, one_program, one_stolen, one_idle, counted, tell, transferring, finished, steal, chosen, channel_in, served, turns, offers, cycle, idle_cycle}
use Rattle.std.proofs.lemmas.Bool.{and_parts}
use Rattle.works.specs.declared.channel.Channel.{Channel}
use Rattle.works.specs.declared.channel.Channel.TheVariants.{Idle, Head, Data, NextHead}
use Rattle.engine.specs.Code.{left_turns, is_idle}

-- a stolen cycle
pub steal_by : (m : Makes) (n : ChannelNumber) (s t w : Machine) → t ≡ (transferring m n s).machine → w ≡ (calling_all m passed (counted one_stolen t)).machine
    → (finished m n w).machine ≡ (steal m n s).machine
unfolding steal tell
steal_by m n s t w e k = ap (λ (x : Machine). (finished m n x).machine) (k ∙ ap (λ (x : Machine). (calling_all m passed (counted one_stolen x)).machine) e)

-- a turn of the offers
pub turn_none : (m : Makes) (b : Option ℕ) (n : ℕ) (s : Machine) → chosen m b s ≡ None → (turns (suc n) m b s).machine ≡ s
turn_none m b n s e = ap (λ (o : Option ℕ). (served o m (turns n m) s).machine) e

-- the channels as the code lists them
pub listed : (i : ℕ) → i < 3 → get_or (Channel1 ∷ (Channel2 ∷ (Channel3 ∷ []))) i Channel1 ≡ channel_in i
listed zero h = refl
listed (suc zero) h = refl
listed (suc (suc zero)) h = refl
listed (suc (suc (suc i))) h = absurd (omega arith)

pub turn_some : (m : Makes) (b : Option ℕ) (i n : ℕ) (s t : Machine) (c : ChannelNumber) → chosen m b s ≡ Some i → c ≡ channel_in i → t ≡ (steal m c s).machine
    → (turns (suc n) m b s).machine ≡ (turns n m (Some (i + 1)) t).machine
turn_some m b i n s t c e k h =
    ap (λ (o : Option ℕ). (served o m (turns n m) s).machine) e
    ∙ ap (λ (x : ChannelNumber). (turns n m (Some (i + 1)) (steal m x s).machine).machine) (sym k)
    ∙ ap (λ (x : Machine). (turns n m (Some (i + 1)) x).machine) (sym h)

-- the offers, by how many stole
pub offers_none : (m : Makes) (s t : Machine) (r : Option ℕ) → ((n : ℕ) → (turns (suc n) m None s).machine ≡ left_turns n m r t) → r ≡ None → t ≡ (offers m s).machine
unfolding offers
offers_none m s t r h e = sym (h 2 ∙ ap (λ (x : Option ℕ). left_turns 2 m x t) e)

pub offers_one : (m : Makes) (s t w : Machine) (r q : Option ℕ) (b : ℕ) → ((n : ℕ) → (turns (suc n) m None s).machine ≡ left_turns n m r t) → r ≡ Some b
    → ((n : ℕ) → (turns (suc n) m (Some b) t).machine ≡ left_turns n m q w) → q ≡ None → w ≡ (offers m s).machine
unfolding offers
offers_one m s t w r q b h e k f = sym (h 2 ∙ ap (λ (x : Option ℕ). left_turns 2 m x t) e ∙ k 1 ∙ ap (λ (x : Option ℕ). left_turns 1 m x w) f)

last_turn : (m : Makes) (r : Option ℕ) (s : Machine) → left_turns 0 m r s ≡ s
last_turn m None s = refl
last_turn m (Some b) s = refl

pub offers_two : (m : Makes) (s t w x : Machine) (r q z : Option ℕ) (b d : ℕ) → ((n : ℕ) → (turns (suc n) m None s).machine ≡ left_turns n m r t) → r ≡ Some b
    → ((n : ℕ) → (turns (suc n) m (Some b) t).machine ≡ left_turns n m q w) → q ≡ Some d
    → ((n : ℕ) → (turns (suc n) m (Some d) w).machine ≡ left_turns n m z x) → x ≡ (offers m s).machine
unfolding offers
offers_two m s t w x r q z b d h e k f l =
    sym (h 2 ∙ ap (λ (y : Option ℕ). left_turns 2 m y t) e ∙ k 1 ∙ ap (λ (y : Option ℕ). left_turns 1 m y w) f ∙ l 0 ∙ last_turn m z x)

-- with every channel idle nobody wishes
idle_is : (c : Channel) → is_idle c ≡ true → c ≡ Idle
idle_is Idle e = refl
idle_is (Head a) e = absurd (true≢false (sym e))
idle_is (Data a n end) e = absurd (true≢false (sym e))
idle_is (NextHead a) e = absurd (true≢false (sym e))

pub offers_idle : (m : Makes) (s : Machine) → (is_idle s.processor.works.channel1 && (is_idle s.processor.works.channel2 && is_idle s.processor.works.channel3)) ≡ true
    → s ≡ (offers m s).machine
unfolding offers
offers_idle m s e =
    let p = and_parts (is_idle s.processor.works.channel1) (is_idle s.processor.works.channel2 && is_idle s.processor.works.channel3) e in
    let q = and_parts (is_idle s.processor.works.channel2) (is_idle s.processor.works.channel3) p.1 in
    sym (turn_none m None 2 s (none_wish (idle_is s.processor.works.channel1 p.0) (idle_is s.processor.works.channel2 q.0) (idle_is s.processor.works.channel3 q.1)))
  where
    none_wish : s.processor.works.channel1 ≡ Idle → s.processor.works.channel2 ≡ Idle → s.processor.works.channel3 ≡ Idle → chosen m None s ≡ None
    none_wish a b c = rw (a, b, c) refl

-- a program cycle and an idle one
pub cycle_by : (m : Makes) (r : Reference) (s o x t : Machine) → o ≡ (offers m s).machine → x ≡ (refer Program r o).machine → t ≡ (calling_all m passed (counted one_program x)).machine
    → t ≡ (cycle m r s).machine
unfolding cycle tell
cycle_by m r s o x t e k h = h ∙ ap (λ (y : Machine). (calling_all m passed (counted one_program y)).machine) (k ∙ ap (λ (y : Machine). (refer Program r y).machine) e)

pub idle_by : (m : Makes) (s o t : Machine) → o ≡ (offers m s).machine → t ≡ (calling_all m passed (counted one_idle o)).machine → t ≡ (idle_cycle m s).machine
unfolding idle_cycle tell
idle_by m s o t e h = h ∙ ap (λ (y : Machine). (calling_all m passed (counted one_idle y)).machine) e
