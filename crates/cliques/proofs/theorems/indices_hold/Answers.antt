use Rattle.cliques.proofs.theorems.indices_hold.Goals as goal
use Rattle.cliques.proofs.Indices.{index_at, index_unique, root_completion, root_head, head_smallest, head_root}

pub returns : goal.returns
returns c = λ g law. record {
  exists = index_at g law;
  one = index_unique g law;
  root_head = root_head g law;
  root_completion = root_completion g law;
  head_root = head_root g law;
  head_smallest = head_smallest g law;
}
