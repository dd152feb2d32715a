-- `cycles::euler::euler_holds` meets its contract. By the law of `Balance`.
use native.Mathlib.Omega.{arith}
use Rattle.cycles.proofs.Balance.{difference_fits, sum_fits, product_fits, balance}
use Rattle.cycles.proofs.euler.euler_holds.Goals as goal

pub overflow_sub-result : goal.overflow_sub-result
overflow_sub-result c = difference_fits c.args.vertices c.args.edges c.args.cycles c.args.pieces (omega arith) (omega arith) (omega arith) (omega arith)

pub overflow_add-result : goal.overflow_add-result
overflow_add-result c = sum_fits c.args.vertices c.args.edges c.args.cycles c.args.pieces (omega arith) (omega arith) (omega arith) (omega arith)

pub overflow_mul-result : goal.overflow_mul-result
overflow_mul-result c = product_fits c.args.vertices c.args.edges c.args.cycles c.args.pieces (omega arith) (omega arith) (omega arith) (omega arith)

pub returns : goal.returns
returns c = balance c.args.vertices c.args.edges c.args.cycles c.args.pieces (omega arith) (omega arith) (omega arith) (omega arith)
