use Rattle.cliques.proofs.theorems.tests_hold.Goals as goal
use Rattle.cliques.proofs.Decisions.{test_maximal, maximal_test, test_head, head_test, test_child, child_test}
use Rattle.cliques.proofs.Order.{before_test, test_before}

pub returns : goal.returns
returns c = λ g law. record {
  maximal_test = maximal_test g law;
  test_maximal = test_maximal g law;
  head_test = head_test g law;
  test_head = test_head g law;
  child_test = λ K D v. child_test g law K v D;
  test_child = test_child g law;
  before_test = before_test;
  test_before = test_before;
}
