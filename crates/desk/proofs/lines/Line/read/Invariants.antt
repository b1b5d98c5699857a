use Rattle.std.proofs.Common.{◌≡◌, min, length, take}
use Rattle.desk.proofs.lines.Line.read.Given as goal

abbrev pub invariant-loop-word : goal.invariant-loop-word
invariant-loop-word l = record {
  room : length l.words ≡ 5;
  counted : l.count ≡ min 5 (length l.yielded);
  kept : take l.count l.words ≡ take 5 l.yielded;
}
