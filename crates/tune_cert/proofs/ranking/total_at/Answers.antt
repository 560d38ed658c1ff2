use Rattle.std.proofs.Common.{sym, arith}
use Rattle.tune_problem.proofs.ListedRanks.{up_to}
use Rattle.tune_cert.proofs.ranking.total_at.Goals as goal

pub listed_total-requires : goal.listed_total-requires
listed_total-requires c =
    let many = up_to c.fight_count.result 0 c.in-Some.fights.now (sym c.if-not-lists_all.ensures) in
    record { few = omega (arith, many, c.fight_count.ensures.few) }
