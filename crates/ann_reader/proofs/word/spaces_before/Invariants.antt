use Rattle.std.proofs.Common.{◌≡◌, ◌+◌, ◌-◌, ◌<◌, drop, get_or}
use Rattle.std.specs.List.{prefix_len}
use Rattle.ann_reader.specs.Words.{is_space}
use Rattle.ann_reader.proofs.word.spaces_before.Given as goal

abbrev pub invariant-loop-place : goal.invariant-loop-place
invariant-loop-place l = record {
  counted : prefix_len is_space l.bytes ≡ l.place + prefix_len is_space (drop l.place l.bytes);
  ascii : 0 < l.place → get_or l.bytes (l.place - 1) 0 < 128;
}
