use Rattle.std.proofs.Common.{◌≡◌, ◌+◌, ◌≤◌, ◌++◌, false, length}
use Rattle.std.specs.Prelude.{vec_len, vec_capacity}
use Rattle.engine.specs.Step.{lent_right}
use Rattle.engine.specs.Code.{makes}
use Rattle.controller.specs.Held.{held}
use Rattle.controller.specs.Run.{run, after, answers_of}
use Rattle.acceptance.proofs.going.go_down.Given as goal

-- What has been answered and what is left to do come to what all of the list does. The spare core is as it was, and is still refused.
abbrev pub invariant-loop-entry : goal.invariant-loop-entry
invariant-loop-entry g l =
    let m = makes g.A.Device g.B.Device g.C.Device g.D.Device in
    let v = held g.A.Device g.B.Device g.C.Device g.D.Device in
    record {
      answers : l.answers.items ++ answers_of (run m l.rest (v l.controller l.core)) ≡ l.initial.answers.items ++ answers_of (run m l.entries (v l.initial.controller l.initial.core));
      machine : after m l.rest (v l.controller l.core) ≡ after m l.entries (v l.initial.controller l.initial.core);
      spare : l.spare ≡ l.initial.spare;
      refused : lent_right (v l.controller l.spare) ≡ false;
      room : vec_len l.answers + length l.rest ≤ vec_capacity l.answers;
    }

abbrev pub decreases-loop-entry : goal.decreases-loop-entry
decreases-loop-entry g l = length l.rest
