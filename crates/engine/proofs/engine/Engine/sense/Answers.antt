use Rattle.std.proofs.Common.{ℕ, List}
use Rattle.engine.specs.declared.place.Position.TheVariants.{First, Second, Third, Fourth}
use Rattle.engine.specs.Code.{view, makes, dev}
use Rattle.engine.proofs.Calling.{called_at}
use Rattle.engine.specs.Events.{sense}
use Rattle.engine.proofs.engine.Engine.sense.Goals as goal

pub returns-in-First-clause-after : goal.returns-in-First-clause-after
returns-in-First-clause-after g c =
    let m = makes g.A.Device g.B.Device g.C.Device g.D.Device in
    let s = λ (u : List ℕ). view g.A.Device g.B.Device g.C.Device g.D.Device c.args.self.now u in
    λ u. called_at m c.args.position First (sense c.args.area c.args.modifier) (s u) (dev g.A.Device c.sense.new.self) c.in-First.is c.sense.ensures.control c.sense.ensures.words

pub returns-in-Second-clause-after : goal.returns-in-Second-clause-after
returns-in-Second-clause-after g c =
    let m = makes g.A.Device g.B.Device g.C.Device g.D.Device in
    let s = λ (u : List ℕ). view g.A.Device g.B.Device g.C.Device g.D.Device c.args.self.now u in
    λ u. called_at m c.args.position Second (sense c.args.area c.args.modifier) (s u) (dev g.B.Device c.sense-in-Second.new.self) c.in-Second.is c.sense-in-Second.ensures.control c.sense-in-Second.ensures.words

pub returns-in-Third-clause-after : goal.returns-in-Third-clause-after
returns-in-Third-clause-after g c =
    let m = makes g.A.Device g.B.Device g.C.Device g.D.Device in
    let s = λ (u : List ℕ). view g.A.Device g.B.Device g.C.Device g.D.Device c.args.self.now u in
    λ u. called_at m c.args.position Third (sense c.args.area c.args.modifier) (s u) (dev g.C.Device c.sense-in-Third.new.self) c.in-Third.is c.sense-in-Third.ensures.control c.sense-in-Third.ensures.words

pub returns-in-Fourth-clause-after : goal.returns-in-Fourth-clause-after
returns-in-Fourth-clause-after g c =
    let m = makes g.A.Device g.B.Device g.C.Device g.D.Device in
    let s = λ (u : List ℕ). view g.A.Device g.B.Device g.C.Device g.D.Device c.args.self.now u in
    λ u. called_at m c.args.position Fourth (sense c.args.area c.args.modifier) (s u) (dev g.D.Device c.sense-in-Fourth.new.self) c.in-Fourth.is c.sense-in-Fourth.ensures.control c.sense-in-Fourth.ensures.words
