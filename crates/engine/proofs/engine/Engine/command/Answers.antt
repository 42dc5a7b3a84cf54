use Rattle.std.proofs.Common.{ℕ, List}
use Rattle.engine.specs.declared.place.Position.TheVariants.{First, Second, Third, Fourth}
use Rattle.engine.specs.Code.{view, makes, dev}
use Rattle.engine.proofs.Calling.{called_at}
use Rattle.engine.specs.Events.{command}
use Rattle.engine.proofs.engine.Engine.command.Goals as goal

pub returns-in-First-clause-after : goal.returns-in-First-clause-after
returns-in-First-clause-after g c =
    let m = makes g.A.Device g.B.Device g.C.Device g.D.Device in
    let s = λ (u : List ℕ). view g.A.Device g.B.Device g.C.Device g.D.Device c.args.self.now u in
    λ u. called_at m c.args.position First (command c.args.order.area c.args.order.function c.args.order.modifier) (s u) (dev g.A.Device c.command.new.device) c.in-First.is c.command.ensures.control c.command.ensures.words

pub returns-in-Second-clause-after : goal.returns-in-Second-clause-after
returns-in-Second-clause-after g c =
    let m = makes g.A.Device g.B.Device g.C.Device g.D.Device in
    let s = λ (u : List ℕ). view g.A.Device g.B.Device g.C.Device g.D.Device c.args.self.now u in
    λ u. called_at m c.args.position Second (command c.args.order.area c.args.order.function c.args.order.modifier) (s u) (dev g.B.Device c.command-in-Second.new.device) c.in-Second.is c.command-in-Second.ensures.control c.command-in-Second.ensures.words

pub returns-in-Third-clause-after : goal.returns-in-Third-clause-after
returns-in-Third-clause-after g c =
    let m = makes g.A.Device g.B.Device g.C.Device g.D.Device in
    let s = λ (u : List ℕ). view g.A.Device g.B.Device g.C.Device g.D.Device c.args.self.now u in
    λ u. called_at m c.args.position Third (command c.args.order.area c.args.order.function c.args.order.modifier) (s u) (dev g.C.Device c.command-in-Third.new.device) c.in-Third.is c.command-in-Third.ensures.control c.command-in-Third.ensures.words

pub returns-in-Fourth-clause-after : goal.returns-in-Fourth-clause-after
returns-in-Fourth-clause-after g c =
    let m = makes g.A.Device g.B.Device g.C.Device g.D.Device in
    let s = λ (u : List ℕ). view g.A.Device g.B.Device g.C.Device g.D.Device c.args.self.now u in
    λ u. called_at m c.args.position Fourth (command c.args.order.area c.args.order.function c.args.order.modifier) (s u) (dev g.D.Device c.command-in-Fourth.new.device) c.in-Fourth.is c.command-in-Fourth.ensures.control c.command-in-Fourth.ensures.words
