use Rattle.std.proofs.Common.{ℕ, List}
use Rattle.engine.specs.declared.place.Position.TheVariants.{First, Second, Third, Fourth}
use Rattle.engine.specs.Code.{view, makes, dev}
use Rattle.engine.proofs.Calling.{called_at}
use Rattle.engine.specs.Events.{get}
use Rattle.engine.proofs.engine.Engine.get.Goals as goal

pub returns-in-First-clause-after : goal.returns-in-First-clause-after
returns-in-First-clause-after g c =
    let m = makes g.A.Device g.B.Device g.C.Device g.D.Device in
    let s = λ (u : List ℕ). view g.A.Device g.B.Device g.C.Device g.D.Device c.args.self.now u in
    λ u. called_at m c.args.position First (get c.args.area) (s u) (dev g.A.Device c.get.new.self) c.in-First.is c.get.ensures.control c.get.ensures.words

pub returns-in-Second-clause-after : goal.returns-in-Second-clause-after
returns-in-Second-clause-after g c =
    let m = makes g.A.Device g.B.Device g.C.Device g.D.Device in
    let s = λ (u : List ℕ). view g.A.Device g.B.Device g.C.Device g.D.Device c.args.self.now u in
    λ u. called_at m c.args.position Second (get c.args.area) (s u) (dev g.B.Device c.get-in-Second.new.self) c.in-Second.is c.get-in-Second.ensures.control c.get-in-Second.ensures.words

pub returns-in-Third-clause-after : goal.returns-in-Third-clause-after
returns-in-Third-clause-after g c =
    let m = makes g.A.Device g.B.Device g.C.Device g.D.Device in
    let s = λ (u : List ℕ). view g.A.Device g.B.Device g.C.Device g.D.Device c.args.self.now u in
    λ u. called_at m c.args.position Third (get c.args.area) (s u) (dev g.C.Device c.get-in-Third.new.self) c.in-Third.is c.get-in-Third.ensures.control c.get-in-Third.ensures.words

pub returns-in-Fourth-clause-after : goal.returns-in-Fourth-clause-after
returns-in-Fourth-clause-after g c =
    let m = makes g.A.Device g.B.Device g.C.Device g.D.Device in
    let s = λ (u : List ℕ). view g.A.Device g.B.Device g.C.Device g.D.Device c.args.self.now u in
    λ u. called_at m c.args.position Fourth (get c.args.area) (s u) (dev g.D.Device c.get-in-Fourth.new.self) c.in-Fourth.is c.get-in-Fourth.ensures.control c.get-in-Fourth.ensures.words
