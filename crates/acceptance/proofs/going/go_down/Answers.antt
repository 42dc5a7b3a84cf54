use Rattle.std.proofs.Common.{◌≡◌, ℕ, List, ◌∷◌, length, rules, arith, ◌∙◌, ap}
use Rattle.engine.specs.Step.{lent_right}
use Rattle.controller.specs.declared.call.Entry.{Entry}
use Rattle.engine.specs.Code.{makes}
use Rattle.controller.specs.Held.{held}
use Rattle.acceptance.proofs.Spare.{still_refused, next_machine, next_answers}
use Rattle.acceptance.proofs.going.go_down.Goals as goal

pub loop-entry-preserved : goal.loop-entry-preserved
loop-entry-preserved g c =
    let m = makes g.A.Device g.B.Device g.C.Device g.D.Device in
    let v = held g.A.Device g.B.Device g.C.Device g.D.Device in
    let l = c.loop-entry in
    let x = c.enter-answer in
    let e = c.in-Some.entry.now in
    let s = v l.controller l.core in
    let t = v x.new.controller x.new.core in
    let q : l.rest.now ≡ e ∷ c.in-Some.more.now = search rules in
    record {
      answers = next_answers m e c.in-Some.more.now l.rest.now s t q x.ensures.machine x.result l.answers.items c.push_reserved.new.self.items _ c.push_reserved.ensures.items x.ensures.answer l.invariant.answers;
      machine = next_machine m e c.in-Some.more.now l.rest.now s t q x.ensures.machine _ l.invariant.machine;
      spare = x.ensures.spare ∙ l.invariant.spare;
      refused = still_refused m e s t x.new.spare x.ensures.machine (ap (λ (u : List ℕ). lent_right (v l.controller u)) x.ensures.spare ∙ l.invariant.refused);
      room = (let a = c.push_reserved.ensures.len in let b = c.push_reserved.ensures.capacity in let d = l.invariant.room in let n = ap (λ (es : List Entry). length es) q in omega arith);
    }
