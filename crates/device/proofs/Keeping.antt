-- From what a make's own functions keep to what every call keeps: a make shows `Parts`, and has `Lawful`.
use Rattle.std.proofs.Common.{◌≡◌, ℕ, ◌+◌, ◌%◌, ◌<◌, Bool, true, false, cond, ◌&&◌, eqb, List, Some, None, Ok, Err, Option, Result, refl, ◌∙◌, add-zero, arith}
use Rattle.device.specs.declared.answer.Asking.{Asking}
use Rattle.device.specs.declared.answer.Asking.TheVariants.{Nothing, Bring, Take}
use Rattle.device.specs.declared.answer.DeviceFault.{DeviceFault}
use Rattle.device.specs.Meaning.{Meaning, ChannelMeaning, no_channel}
use Rattle.device.specs.Calls.{command_answer, when_accepted, get_place, when_there, when_brings, when_takes, how_many}
use Rattle.device.specs.Laws.{Keeps, ChannelLawful, Lawful}

-- what a make's own functions keep
pub record Parts (m : Meaning) : Type 0 where
  pub range : (c : List ℕ) (area : ℕ) → m.answers c area ≡ true → (0 < area) × (area < 32)
  pub own : (c : List ℕ) (area function : ℕ) → m.takes c area function ≡ true → m.answers c area ≡ true
  pub within : (c : List ℕ) (area p : ℕ) → m.place c area ≡ Some p → p < m.left c
  pub shows : (c : List ℕ) (area : ℕ) → m.raised c area ≡ true → (m.answers c area ≡ true) × (m.line c ≡ true)
  pub off : (c : List ℕ) (area : ℕ) → m.raised (m.line_off c area) area ≡ false
  pub rests : (c : List ℕ) → m.operating (m.reset c) ≡ false
  pub commanded : (c : List ℕ) (area function modifier : ℕ) → Keeps m 0 c (m.commanded c area function modifier)
  pub line_off : (c : List ℕ) (area : ℕ) → Keeps m 0 c (m.line_off c area)
  pub put : (c : List ℕ) (area word : ℕ) → Keeps m 0 c (m.put c area word)
  pub got : (c : List ℕ) (area p : ℕ) → m.place c area ≡ Some p → Keeps m 1 c (m.got c area)
  pub passed : (c : List ℕ) → Keeps m 0 c (m.passed c)
  pub reset : (c : List ℕ) → Keeps m 0 c (m.reset c)

-- and of its channel
pub record ChannelParts (m : Meaning) (ch : ChannelMeaning) : Type 0 where
  pub within : (c : List ℕ) (p : ℕ) → ch.asks c ≡ Bring → ch.place c ≡ Some p → p < m.left c
  pub brought : (c : List ℕ) → ch.asks c ≡ Bring → Keeps m (how_many (ch.place c)) c (ch.brought c)
  pub taken : (c : List ℕ) (word : ℕ) → ch.asks c ≡ Take → Keeps m 0 c (ch.taken c word)
  pub finished : (c : List ℕ) (go_on tell : Bool) → Keeps m 0 c (ch.finished c go_on tell)

-- nothing done keeps everything; either of two ways, or neither, keeps what both keep
pub keeps_same : {m : Meaning} {c : List ℕ} → Keeps m 0 c c
keeps_same {m} {c} = record { areas = λ a. refl; codes = λ a f. refl; words = add-zero (m.left c) }

module _ {m : Meaning} {c d : List ℕ} where
  pub keeps_if : (b : Bool) → Keeps m 0 c d → Keeps m 0 c (cond b d c)
  keeps_if true k = k
  keeps_if false k = keeps_same

  pub keeps_accepted : (r : Result (Unit {0}) DeviceFault) → Keeps m 0 c d → Keeps m 0 c (when_accepted r d c)
  keeps_accepted (Ok u) k = k
  keeps_accepted (Err e) k = keeps_same

  pub keeps_there : (p : Option ℕ) → ((q : ℕ) → p ≡ Some q → Keeps m 1 c d) → Keeps m (how_many p) c (when_there p d c)
  keeps_there None k = keeps_same
  keeps_there (Some q) k = k q refl

  pub keeps_brings : (a : Asking) (p : Option ℕ) → (a ≡ Bring → Keeps m (how_many p) c d) → Keeps m (how_many (when_brings a p None)) c (when_brings a d c)
  keeps_brings Nothing p k = keeps_same
  keeps_brings Bring p k = k refl
  keeps_brings Take p k = keeps_same

  pub keeps_takes : (a : Asking) → (a ≡ Take → Keeps m 0 c d) → Keeps m 0 c (when_takes a d c)
  keeps_takes Nothing k = keeps_same
  keeps_takes Bring k = keeps_same
  keeps_takes Take k = k refl

-- keeping, one thing after the other
pub keeps_then : {m : Meaning} {j k : ℕ} (c d e : List ℕ) → Keeps m j c d → Keeps m k d e → Keeps m (j + k) c e
keeps_then c d e f g = record {
  areas = λ a. g.areas a ∙ f.areas a;
  codes = λ a h. g.codes a h ∙ f.codes a h;
  words = let x = g.words in let y = f.words in omega arith;
}

-- a place that is there only where the device answers, or asks to bring
there : (b : Bool) (p : Option ℕ) (q : ℕ) → cond b p None ≡ Some q → p ≡ Some q
there true p q e = e
there false p q e = absurd cc

brings : (a : Asking) (p : Option ℕ) (q : ℕ) → when_brings a p None ≡ Some q → (a ≡ Bring) × (p ≡ Some q)
brings Nothing p q e = absurd cc
brings Bring p q e = (refl, e)
brings Take p q e = absurd cc

pub channel_lawful_by : (m : Meaning) (ch : ChannelMeaning) → ChannelParts m ch → ChannelLawful m ch
channel_lawful_by m ch p = record {
  within = λ c q e. let b = brings (ch.asks c) (ch.place c) q e in p.within c q b.0 b.1;
  bring = λ c. keeps_brings (ch.asks c) (ch.place c) (p.brought c);
  take = λ c w. keeps_takes (ch.asks c) (p.taken c w);
  finish = p.finished;
}

pub lawful_by : (m : Meaning) → Parts m → ChannelLawful m m.channel → Lawful m
lawful_by m p ch = record {
  range = p.range;
  own = p.own;
  within = λ c area q e. p.within c area q (there (m.answers c area) (m.place c area) q e);
  shows = p.shows;
  off = p.off;
  rests = p.rests;
  command = λ c area function modifier. keeps_accepted (command_answer m c area function) (p.commanded c area function modifier);
  sense = λ c area modifier. keeps_if (m.answers c area && eqb (modifier % 2) 1) (p.line_off c area);
  put = λ c area word. keeps_if (m.answers c area) (p.put c area word);
  get = λ c area. keeps_there (get_place m c area) (λ q e. p.got c area q (there (m.answers c area) (m.place c area) q e));
  passed = p.passed;
  reset = p.reset;
  channel = ch;
}

-- a device that no channel serves has nothing to show of one
pub no_channel_lawful : (m : Meaning) → ChannelLawful m no_channel
no_channel_lawful m = channel_lawful_by m no_channel (record {
  within = λ c p a e. absurd cc;
  brought = λ c a. keeps_same;
  taken = λ c w a. keeps_same;
  finished = λ c go_on tell. keeps_same;
})
