-- What the words of a line say: a call, the word help, or nothing.
use Rattle.std.specs.Prelude.{◌≡◌, ℕ, ◌^◌, ◌<◌, ◌⊎◌, List, [], length, slice_index_or, codes, Option, Some, None, IsSome, ⊤}
use Rattle.std.specs.Borrow.{Bor}
use Rattle.std.specs.Iterator.{DrainsIf}
use Rattle.std.specs.Str.Iter.{split_whitespace_rest, split_whitespace_steps}
use Rattle.std.specs.Str.Parse.{IsNumeral, digits_value, without_leading_plus}
use Rattle.std.specs.declared.str.SplitWhitespace.{SplitWhitespace}
use Rattle.run.specs.declared.call.Call.{Call}
use Rattle.run.specs.declared.call.Call.TheVariants.{Tighten, Open, Keep, Drop, Ask, Settle, Seek}
use Rattle.desk.specs.declared.lines.Line.{Line}
use Rattle.desk.specs.declared.lines.Line.TheVariants as line

-- a `&[&str]`
abbrev pub Words : Type 0
Words = List (Bor (List ℕ))

-- they are what stands between the white space of the line
abbrev pub AreWords : List ℕ → Words → Type 0
AreWords line words = (it : SplitWhitespace) × (split_whitespace_rest it ≡ line) × DrainsIf split_whitespace_steps ⊤ it words

-- the text of word i, which is empty past the end
abbrev pub word : Words → ℕ → List ℕ
word words i = (slice_index_or words i (record { ref_ptr = (0, 0); now = [] })).now

-- this many words, of which the first is the name
abbrev pub HasForm : Words → List ℕ → ℕ → Type 0
HasForm words name count = (length words ≡ count) × (word words 0 ≡ name)

-- the number that decimal digits write, which a plus may lead
abbrev pub number_of : List ℕ → ℕ
number_of text = digits_value 10 (without_leading_plus text)

-- such digits, whose number fits so many bits
abbrev pub IsNumber : ℕ → List ℕ → Type 0
IsNumber bits text = IsNumeral 10 (without_leading_plus text) × (number_of text < 2 ^ bits)

-- the call where the fact holds, and nothing where it does not
abbrev pub CallIff : Option Line → Type 0 → Call → Type 0
CallIff (Some l) P call = P × (l ≡ line.Call call)
CallIff None P call = P → ⊥

module _ (words : Words) where
  -- one of the eight forms
  abbrev pub Formed : Type 0
  Formed = HasForm words (codes "help") 1 ⊎ (HasForm words (codes "open") 1 ⊎ (HasForm words (codes "settle") 1
      ⊎ (HasForm words (codes "seek") 1 ⊎ (HasForm words (codes "keep") 2 ⊎ (HasForm words (codes "drop") 2
      ⊎ (HasForm words (codes "ask") 2 ⊎ HasForm words (codes "tighten") 4))))))

-- what words say
pub record Says (words : Words) (r : Option Line) : Type 0 where
  pub helps : HasForm words (codes "help") 1 → r ≡ Some line.Help
  pub opens : HasForm words (codes "open") 1 → r ≡ Some (line.Call Open)
  pub settles : HasForm words (codes "settle") 1 → r ≡ Some (line.Call Settle)
  pub seeks : HasForm words (codes "seek") 1 → r ≡ Some (line.Call Seek)
  pub keeps : HasForm words (codes "keep") 2 → CallIff r (IsNumber 32 (word words 1)) (Keep (number_of (word words 1)))
  pub drops : HasForm words (codes "drop") 2 → CallIff r (IsNumber 32 (word words 1)) (Drop (number_of (word words 1)))
  pub asks : HasForm words (codes "ask") 2 → CallIff r (IsNumber 64 (word words 1)) (Ask (number_of (word words 1)))
  pub tightens : HasForm words (codes "tighten") 4
      → CallIff r (IsNumber 64 (word words 1) × (IsNumber 16 (word words 2) × IsNumber 16 (word words 3)))
      (Tighten (number_of (word words 1)) (number_of (word words 2)) (number_of (word words 3)))
  pub others : IsSome r → Formed words
