-- `package::Order::write` meets its contract.
use Rattle.std.proofs.lemmas.Result.{err_from_is_err_and}
use Rattle.package.proofs.Laying.{asked, writes, refuses}
use Rattle.package.proofs.writing.Order.write.Goals as goal

pub lay-requires : goal.lay-requires
lay-requires c =
    let (short, counted) = asked c.args.self.now c.in_ok-set.ensures.0 in
    (short, counted, c.in_ok-set.ensures.1)

pub returns : goal.returns
returns c = writes c.args.self.now _ c.in_ok-set.ensures.0 c.lay.ensures

pub returns-in_err-set : goal.returns-in_err-set
returns-in_err-set c =
    let p = err_from_is_err_and c.from_residual.result c.from_residual.ensures.1 in
    rw (p.1, p.2) (refuses c.args.self.now _ c.in_err-set.ensures.0)
