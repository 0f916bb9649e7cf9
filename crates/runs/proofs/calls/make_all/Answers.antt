use Rattle.std.proofs.Common.{◌≤◌, length, arith}
use Rattle.model.proofs.Exchanges.{midway_more, midway_end}
use Rattle.runs.proofs.calls.make_all.Goals as goal

pub loop-exchange-preserved : goal.loop-exchange-preserved
loop-exchange-preserved g c =
    let h = c.loop-exchange.invariant in
    let k = c.loop-exchange.auto.exchanges in
    let obeys = rw (h.table, ← c.exchange-item.is) at c.make.ensures.obeys in
    record {
      table = cc;
      obeys = midway_more _ _ _ _ _ _ _ c.exchange-item.result _ (omega arith) c.exchange-item.is h.obeys obeys;
    }

pub returns-clause-obeys : goal.returns-clause-obeys
returns-clause-obeys g c =
    let k = c.loop-exchange.auto.exchanges in
    let f : length c.loop-exchange.exchanges ≤ c.loop-exchange.exchange-index = omega arith in
    midway_end _ _ _ _ _ _ f c.loop-exchange.invariant.obeys
