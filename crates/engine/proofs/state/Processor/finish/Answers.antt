use Rattle.std.proofs.Common.{sym, ap, ◌∙◌}
use Rattle.engine.specs.declared.state.Works.{Works}
use Rattle.engine.specs.Machine.{with_works}
use Rattle.engine.specs.Code.{dev}
use Rattle.engine.proofs.Records.{dev_path}
use Rattle.engine.proofs.Serving.{finish_data}
use Rattle.engine.proofs.state.Processor.finish.Goals as goal

pub returns-in-Data-default-eq0-default-clause-after : goal.returns-in-Data-default-eq0-default-clause-after
returns-in-Data-default-eq0-default-clause-after g c =
    let p = c.args.self.now in
    let x = c.in-Data-default-eq0-default in
    finish_data c.args.number g.D.Device.means x.address x.count x.end c.after_table.result p (with_works c.set_channel.new.self p)
    (dev g.D.Device c.args.device.now) (dev g.D.Device c.finish.new.self) (sym c.channel.ensures ∙ x.is) x.count-test
    (dev_path _ _ c.finish.ensures.control c.finish.ensures.words) c.after_table.ensures (ap (λ (w : Works). with_works w p) c.set_channel.ensures)
