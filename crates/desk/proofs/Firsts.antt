-- The first five words of a line say what the line says.
use Rattle.std.proofs.Common.{◌≤◌, inl, inr, length, take, subst, arith}
use Rattle.std.proofs.lemmas.Bool.{cases_lt}
use Rattle.std.proofs.lemmas.List.{length-take-le, take_all}
use Rattle.std.specs.Prelude.{Option}
use Rattle.desk.specs.declared.lines.Line.{Line}
use Rattle.desk.specs.Lines.{Words, Formed, Says}

-- no form has more than four words
formed_short : (words : Words) → Formed words → length words ≤ 4
formed_short words (inl h) = omega (arith, h.0)
formed_short words (inr (inl h)) = omega (arith, h.0)
formed_short words (inr (inr (inl h))) = omega (arith, h.0)
formed_short words (inr (inr (inr (inl h)))) = omega (arith, h.0)
formed_short words (inr (inr (inr (inr (inl h))))) = omega (arith, h.0)
formed_short words (inr (inr (inr (inr (inr (inl h)))))) = omega (arith, h.0)
formed_short words (inr (inr (inr (inr (inr (inr (inl h))))))) = omega (arith, h.0)
formed_short words (inr (inr (inr (inr (inr (inr (inr h))))))) = omega (arith, h.0)

pub says_all : (words : Words) (r : Option Line) → Says (take 5 words) r → Says words r
says_all words r says = elim (cases_lt 5 (length words)) [
  | inl many ↦ record {
    helps = λ h. absurd (omega (arith, many, h.0));
    opens = λ h. absurd (omega (arith, many, h.0));
    settles = λ h. absurd (omega (arith, many, h.0));
    seeks = λ h. absurd (omega (arith, many, h.0));
    keeps = λ h. absurd (omega (arith, many, h.0));
    drops = λ h. absurd (omega (arith, many, h.0));
    asks = λ h. absurd (omega (arith, many, h.0));
    tightens = λ h. absurd (omega (arith, many, h.0));
    others = λ h. absurd (omega (arith, formed_short (take 5 words) (says.others h), length-take-le 5 words (omega (arith, many))));
  }
  | inr few ↦ subst (λ (ws : Words). Says ws r) (take_all 5 words (omega (arith, few))) says
]
