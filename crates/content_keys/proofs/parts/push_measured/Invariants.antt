use Rattle.std.proofs.Common.{◌≡◌, ◌∷◌, ◌++◌, [], length, take}
use Rattle.content_keys.proofs.parts.push_measured.Given as goal

abbrev pub invariant-loop-byte : goal.invariant-loop-byte
invariant-loop-byte l = (l.out.items ≡ (l.fn.out.items ++ length l.text ∷ []) ++ take l.byte-index l.text) × (l.byte-items ≡ l.text)
