-- Two families as one: the first's rules, then the second's, any past 4,096 left out.
use Rattle.std.specs.Prelude.{◌+◌, ◌-◌, min, cond, nat_lt}
use Rattle.bounds.specs.Laws.{Meaning, idle}

abbrev pub beside : Meaning → Meaning → Meaning
beside a b = record {
  size = min 4096 (a.size + b.size);
  rule = λ r. cond (nat_lt r a.size) (a.rule r) (cond (nat_lt r 4096) (b.rule (r - a.size)) idle);
}
