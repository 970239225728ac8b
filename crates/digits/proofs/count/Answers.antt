use borrow.Author.Rules.{rules}
use native.Mathlib.Omega.{arith}
use Rattle.digits.proofs.Laws.{count_one, count_is}
use Rattle.digits.proofs.count.Goals as goal

pub returns-then-n-lt10 : goal.returns-then-n-lt10
returns-then-n-lt10 c = omega (arith, count_one c.args.n (search rules))

pub returns-then-n-lt100 : goal.returns-then-n-lt100
returns-then-n-lt100 c = count_is _ 1 (search rules) (search rules) (search rules)

pub returns-then-n-lt1000 : goal.returns-then-n-lt1000
returns-then-n-lt1000 c = count_is _ 2 (search rules) (search rules) (search rules)

pub returns-then-n-lt10000 : goal.returns-then-n-lt10000
returns-then-n-lt10000 c = count_is _ 3 (search rules) (search rules) (search rules)

pub returns-then-n-lt100000 : goal.returns-then-n-lt100000
returns-then-n-lt100000 c = count_is _ 4 (search rules) (search rules) (search rules)

pub returns-then-n-lt1000000 : goal.returns-then-n-lt1000000
returns-then-n-lt1000000 c = count_is _ 5 (search rules) (search rules) (search rules)

pub returns-then-n-lt10000000 : goal.returns-then-n-lt10000000
returns-then-n-lt10000000 c = count_is _ 6 (search rules) (search rules) (search rules)

pub returns-then-n-lt100000000 : goal.returns-then-n-lt100000000
returns-then-n-lt100000000 c = count_is _ 7 (search rules) (search rules) (search rules)

pub returns-then-n-lt1000000000 : goal.returns-then-n-lt1000000000
returns-then-n-lt1000000000 c = count_is _ 8 (search rules) (search rules) (search rules)

pub returns-else-n-lt1000000000 : goal.returns-else-n-lt1000000000
returns-else-n-lt1000000000 c = count_is _ 9 (search rules) (search rules) (search rules)
