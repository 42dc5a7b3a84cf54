-- A make that answers to no area and refuses everything. It has no words and no control. The traits ask nothing of a make beyond
-- its meaning, so this is a device like any other. Its meaning comes first, and then the evidence that it is lawful.
use Rattle.std.specs.Prelude.{false, None, refl}
use Rattle.device.specs.Meaning.{Meaning, no_channel}
use Rattle.device.specs.Laws.{Lawful}
use Rattle.device.proofs.Keeping.{lawful_by, no_channel_lawful, keeps_same}

abbrev pub absent : Meaning
absent = record {
  kind = 9;
  left = λ c. 0;
  answers = λ c area. false;
  takes = λ c area function. false;
  operating = λ c. false;
  line = λ c. false;
  raised = λ c area. false;
  commanded = λ c area function modifier. c;
  status = λ c area modifier. 0;
  line_off = λ c area. c;
  put = λ c area word. c;
  place = λ c area. None;
  got = λ c area. c;
  passed = λ c. c;
  reset = λ c. c;
  channel = no_channel;
}

pub absent_lawful : Lawful absent
absent_lawful = lawful_by absent (record {
  range = λ c area e. absurd cc;
  own = λ c area function e. e;
  within = λ c area p e. absurd cc;
  shows = λ c area e. (e, e);
  off = λ c area. refl;
  rests = λ c. refl;
  commanded = λ c area function modifier. keeps_same;
  line_off = λ c area. keeps_same;
  put = λ c area word. keeps_same;
  got = λ c area p e. absurd cc;
  passed = λ c. keeps_same;
  reset = λ c. keeps_same;
}) (no_channel_lawful absent)
