use Rattle.std.proofs.Common.{rules, tests, arith}
use Rattle.std.proofs.lemmas.List.Sorted.{IsPartitionPoint-from_clause}
use Rattle.sorted.specs.Keyed.{up_to_key}
use Rattle.sorted.proofs.Search.{front_at, parted}
use Rattle.sorted.proofs.lists.place_after.Goals as goal

pub returns : goal.returns
returns g c =
    let p = up_to_key g.T.Key.Order.upto g.T.Keyed.keyed c.args.key in
    let xs = c.args.records.now in
    let halves = parted g.T.Key.Order.upto g.met.T.Key.Order.transitive g.T.Keyed.keyed c.args.key xs c.requires in
    let point = IsPartitionPoint-from_clause p xs _ c.partition_point.ensures.partitioned halves (λ a r q k. search (rules, tests)) in
    omega (arith, front_at p xs c.partition_point.result c.partition_point.ensures.bound point)
