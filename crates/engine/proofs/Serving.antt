-- A channel's work on its own processor, core and device, as the machine's.
use Rattle.std.proofs.Common.{◌≡◌, ℕ, ◌%◌, Bool, true, false, List, length, get_or, sym, refl, ap, ◌∙◌, ap₂}
use Rattle.storage.specs.Word.{data_of, is_protected}
use Rattle.device.specs.declared.answer.Asking.{Asking}
use Rattle.device.specs.declared.answer.Asking.TheVariants.{Bring, Take}
use Rattle.device.specs.Meaning.{Meaning}
use Rattle.device.specs.declared.table.TableEnd.{TableEnd}
use Rattle.device.specs.Calls.{bring_place, word_at}
use Rattle.works.specs.declared.channel.Channel.{Channel}
use Rattle.works.specs.declared.channel.Channel.TheVariants.{Head, Data, NextHead}
use Rattle.engine.specs.declared.place.By.{By}
use Rattle.engine.specs.declared.place.By.TheVariants.{Device}
use Rattle.engine.specs.declared.place.Position.{Position}
use Rattle.engine.specs.declared.place.Position.TheVariants.{First, Second, Third, Fourth}
use Rattle.engine.specs.declared.place.ChannelNumber.{ChannelNumber}
use Rattle.engine.specs.declared.state.Processor.{Processor}
use Rattle.engine.specs.Machine.{Machine, Dev, dev_at, position_of, word_in, place, with_core, with_processor, with_dev, with_works, with_channel, channel_at, work}
use Rattle.engine.specs.Events.{bring, take, finish, stored_at, brought_to}
use Rattle.engine.specs.Makes.{Makes, make_at, made, calling}
use Rattle.engine.specs.Cycle.{reading, storing, bringing, checked_store, refer, at_head, moves, transfer, after_table, ending, finished, asking_of, transferring}
use Rattle.engine.specs.Code.{Refers, at_channel, Serves}

-- the device that was put there, and another in its place
pub dev_back : (x : Position) (p : Processor) (u : List ℕ) (d : Dev) (o : Machine) → dev_at x (with_core u (with_processor p (with_dev x d o))) ≡ d
dev_back First p u d o = refl
dev_back Second p u d o = refl
dev_back Third p u d o = refl
dev_back Fourth p u d o = refl

pub dev_over : (x : Position) (p : Processor) (u : List ℕ) (d e : Dev) (o : Machine)
    → with_dev x e (with_core u (with_processor p (with_dev x d o))) ≡ with_core u (with_processor p (with_dev x e o))
dev_over First p u d e o = refl
dev_over Second p u d e o = refl
dev_over Third p u d e o = refl
dev_over Fourth p u d e o = refl

-- a device's word is stored as any other
either_store : (b : Bool) (by : By) (a w : ℕ) (s : Machine) → (checked_store b by a w (brought_to a) s).machine ≡ (checked_store b by a w (stored_at a) s).machine
either_store true by a w s = refl
either_store false by a w s = refl

pub bringing_stores : (by : By) (a w : ℕ) (s : Machine) → (refer by (bringing a w) s).machine ≡ (refer by (storing a w) s).machine
unfolding refer
bringing_stores by a w s = either_store (is_protected (word_in a s)) by (place a s) w s

module _ (n : ChannelNumber) (mean : Meaning) (a : ℕ) where
  abbrev moving : Makes → Machine → Rattle.engine.specs.Events.Did
  moving m s = moves (asking_of m n s) m n a s

  -- what the device asks, on the machine
  asked : (m : Makes) (p : Processor) (u : List ℕ) (d : Dev) (o : Machine) (q : Asking) → make_at (position_of n) m ≡ mean → mean.channel.asks d.control ≡ q → asking_of m n (at_channel n p u d o) ≡ q
  asked m p u d o q e k = ap₂ (λ (x : Meaning) (y : Dev). x.channel.asks y.control) e (dev_back (position_of n) p u d o) ∙ k

  pub moves_bring : (by : By) (word : ℕ) (p q : Processor) (u v : List ℕ) (d e : Dev) → by ≡ Device (position_of n) mean.kind → mean.channel.asks d.control ≡ Bring
      → word ≡ word_at (bring_place mean.channel d.control) d.words → e ≡ made mean bring d → Refers by (storing a word) p u q v → Serves n mean moving p u d q v e
  unfolding calling
  moves_bring by word p q u v d e b k w h r m o x =
      let pos = position_of n in
      let s = at_channel n p u d o in
      ap (λ (y : Asking). (moves y m n a s).machine) (asked m p u d o Bring x k)
      ∙ ap₂ (λ (y : Meaning) (z : Dev). (refer (Device pos y.kind) (bringing a (word_at (bring_place y.channel z.control) z.words)) (with_dev pos (made y bring z) s)).machine) x (dev_back pos p u d o)
      ∙ ap₂ (λ (y : By) (z : ℕ). (refer y (bringing a z) (with_dev pos (made mean bring d) s)).machine) (sym b) (sym w)
      ∙ ap (λ (z : Dev). (refer by (bringing a word) (with_dev pos z s)).machine) (sym h)
      ∙ ap (λ (z : Machine). (refer by (bringing a word) z).machine) (dev_over pos p u d e o)
      ∙ bringing_stores by a word (with_core u (with_processor p (with_dev pos e o)))
      ∙ r (with_dev pos e o)

  pub moves_take : (by : By) (word : ℕ) (p q : Processor) (u : List ℕ) (d e : Dev) → by ≡ Device (position_of n) mean.kind → mean.channel.asks d.control ≡ Take
      → word ≡ data_of (get_or u (a % length u) 0) → e ≡ made mean (take word) d → Refers by (reading a) p u q u → Serves n mean moving p u d q u e
  unfolding calling
  moves_take by word p q u d e b k w h r m o x =
      let pos = position_of n in
      let s = at_channel n p u d o in
      ap (λ (y : Asking). (moves y m n a s).machine) (asked m p u d o Take x k)
      ∙ ap₂ (λ (y : Meaning) (z : ℕ). (calling m pos (take z) (refer (Device pos y.kind) (reading a) s).machine).machine) x (sym w)
      ∙ ap (λ (y : By). (calling m pos (take word) (refer y (reading a) s).machine).machine) (sym b)
      ∙ ap (λ (z : Machine). (calling m pos (take word) z).machine) (r (with_dev pos d o))
      ∙ ap₂ (λ (y : Meaning) (z : Dev). with_dev pos (made y (take word) z) (at_channel n q u d o)) x (dev_back pos q u d o)
      ∙ ap (λ (z : Dev). with_dev pos z (at_channel n q u d o)) (sym h)
      ∙ dev_over pos q u d e o

-- where the channel stands, on the machine
module _ (n : ChannelNumber) (mean : Meaning) where
  transfer_at : (m : Makes) (p : Processor) (u : List ℕ) (d : Dev) (o : Machine) (c : Channel) → channel_at n p.works ≡ c
      → (transferring m n (at_channel n p u d o)).machine ≡ (transfer c (asking_of m n (at_channel n p u d o)) m n (at_channel n p u d o)).machine
  transfer_at m p u d o c k = ap (λ (x : Channel). (transfer x (asking_of m n (at_channel n p u d o)) m n (at_channel n p u d o)).machine) k

  -- a reading by the channel, and its new state
  read_then : (a : ℕ) (by : By) (next : ℕ → ℕ → Channel) (c : Channel) (p q r : Processor) (u : List ℕ) (d : Dev) (word : ℕ)
      → by ≡ Device (position_of n) mean.kind → Refers by (reading a) p u q u → word ≡ data_of (get_or u (a % length u) 0) → c ≡ next (length u) word
      → r ≡ with_works (with_channel n c q.works) q
      → (m : Makes) (o : Machine) → make_at (position_of n) m ≡ mean
      → work (with_channel n (next (length u) (data_of (get_or u (a % length u) 0)))) (refer (Device (position_of n) (make_at (position_of n) m).kind) (reading a) (at_channel n p u d o)).machine ≡ at_channel n r u d o
  read_then a by next c p q r u d word b k w e h m o x =
      ap (λ (y : Meaning). work (with_channel n (next (length u) (data_of (get_or u (a % length u) 0)))) (refer (Device (position_of n) y.kind) (reading a) (at_channel n p u d o)).machine) x
      ∙ ap₂ (λ (y : By) (z : ℕ). work (with_channel n (next (length u) z)) (refer y (reading a) (at_channel n p u d o)).machine) (sym b) (sym w)
      ∙ ap (λ (z : Channel). work (with_channel n z) (refer by (reading a) (at_channel n p u d o)).machine) (sym e)
      ∙ ap (λ (z : Machine). work (with_channel n c) z) (k (with_dev (position_of n) d o))
      ∙ ap (λ (z : Processor). at_channel n z u d o) (sym h)

  pub transfer_head : (a : ℕ) (by : By) (c : Channel) (p q r : Processor) (u : List ℕ) (d : Dev) (word : ℕ) → channel_at n p.works ≡ Head a
      → by ≡ Device (position_of n) mean.kind → Refers by (reading a) p u q u → word ≡ data_of (get_or u (a % length u) 0) → c ≡ at_head (length u) a word
      → r ≡ with_works (with_channel n c q.works) q → Serves n mean (λ m. transferring m n) p u d r u d
  transfer_head a by c p q r u d word f b k w e h m o x =
      transfer_at m p u d o (Head a) f ∙ read_then a by (λ n v. at_head n a v) c p q r u d word b k w e h m o x

  pub transfer_next : (a : ℕ) (by : By) (c : Channel) (p q r : Processor) (u : List ℕ) (d : Dev) (word : ℕ) → channel_at n p.works ≡ NextHead a
      → by ≡ Device (position_of n) mean.kind → Refers by (reading a) p u q u → word ≡ data_of (get_or u (a % length u) 0) → c ≡ Head (word % length u)
      → r ≡ with_works (with_channel n c q.works) q → Serves n mean (λ m. transferring m n) p u d r u d
  transfer_next a by c p q r u d word f b k w e h m o x =
      transfer_at m p u d o (NextHead a) f ∙ read_then a by (λ n v. Head (v % n)) c p q r u d word b k w e h m o x

  -- the end of a table
  finish_at : (m : Makes) (p : Processor) (u : List ℕ) (d : Dev) (o : Machine) (c : Channel) → channel_at n p.works ≡ c
      → (finished m n (at_channel n p u d o)).machine ≡ (ending c m n (at_channel n p u d o)).machine
  finish_at m p u d o c k = ap (λ (x : Channel). (ending x m n (at_channel n p u d o)).machine) k

  pub finish_data : (a count : ℕ) (end : TableEnd) (c : Channel) (p r : Processor) (d e : Dev) → channel_at n p.works ≡ Data a count end → count ≡ 0
      → e ≡ made mean (finish end.go_on end.tell) d → c ≡ after_table end.go_on a → r ≡ with_works (with_channel n c p.works) p
      → (u : List ℕ) → Serves n mean (λ m. finished m n) p u d r u e
  unfolding calling
  finish_data a count end c p r d e f z h k w u m o x =
      finish_at m p u d o (Data a 0 end) (f ∙ ap (λ (y : ℕ). Data a y end) z)
      ∙ ap₂ (λ (y : Meaning) (v : Dev). work (with_channel n (after_table end.go_on a)) (with_dev (position_of n) (made y (finish end.go_on end.tell) v) (at_channel n p u d o))) x (dev_back (position_of n) p u d o)
      ∙ ap₂ (λ (v : Dev) (y : Channel). work (with_channel n y) (with_dev (position_of n) v (at_channel n p u d o))) (sym h) (sym k)
      ∙ ap (λ (v : Machine). work (with_channel n c) v) (dev_over (position_of n) p u d e o)
      ∙ ap (λ (v : Processor). at_channel n v u e o) (sym w)
