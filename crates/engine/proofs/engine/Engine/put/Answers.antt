use Rattle.std.proofs.Common.{ℕ, List}
use Rattle.engine.specs.declared.place.Position.TheVariants.{First, Second, Third, Fourth}
use Rattle.engine.specs.Code.{view, makes, dev}
use Rattle.engine.proofs.Calling.{called_at}
use Rattle.engine.specs.Events.{put}
use Rattle.engine.proofs.engine.Engine.put.Goals as goal

pub returns-in-First-clause-after : goal.returns-in-First-clause-after
returns-in-First-clause-after g c =
    let m = makes g.A.Device g.B.Device g.C.Device g.D.Device in
    let s = λ (u : List ℕ). view g.A.Device g.B.Device g.C.Device g.D.Device c.args.self.now u in
    λ u. called_at m c.args.position First (put c.args.area c.args.word) (s u) (dev g.A.Device c.put.new.self) c.in-First.is c.put.ensures.control c.put.ensures.words

pub returns-in-Second-clause-after : goal.returns-in-Second-clause-after
returns-in-Second-clause-after g c =
    let m = makes g.A.Device g.B.Device g.C.Device g.D.Device in
    let s = λ (u : List ℕ). view g.A.Device g.B.Device g.C.Device g.D.Device c.args.self.now u in
    λ u. called_at m c.args.position Second (put c.args.area c.args.word) (s u) (dev g.B.Device c.put-in-Second.new.self) c.in-Second.is c.put-in-Second.ensures.control c.put-in-Second.ensures.words

pub returns-in-Third-clause-after : goal.returns-in-Third-clause-after
returns-in-Third-clause-after g c =
    let m = makes g.A.Device g.B.Device g.C.Device g.D.Device in
    let s = λ (u : List ℕ). view g.A.Device g.B.Device g.C.Device g.D.Device c.args.self.now u in
    λ u. called_at m c.args.position Third (put c.args.area c.args.word) (s u) (dev g.C.Device c.put-in-Third.new.self) c.in-Third.is c.put-in-Third.ensures.control c.put-in-Third.ensures.words

pub returns-in-Fourth-clause-after : goal.returns-in-Fourth-clause-after
returns-in-Fourth-clause-after g c =
    let m = makes g.A.Device g.B.Device g.C.Device g.D.Device in
    let s = λ (u : List ℕ). view g.A.Device g.B.Device g.C.Device g.D.Device c.args.self.now u in
    λ u. called_at m c.args.position Fourth (put c.args.area c.args.word) (s u) (dev g.D.Device c.put-in-Fourth.new.self) c.in-Fourth.is c.put-in-Fourth.ensures.control c.put-in-Fourth.ensures.words
