use Rattle.std.proofs.Common.{◌≡◌, ℕ, ◌≤◌, ◌+◌, ◌-◌, ◌<◌, ◌++◌, ◌==◌, ◌∷◌, [], sym, ◌∙◌, ap, length, take, drop, length-drop, append_assoc, arith, map, List}
use Rattle.std.specs.List.{slice_split, position_or_len, before_first, after_first}
use Rattle.std.proofs.lemmas.List.{take_all}
use Rattle.std.proofs.lemmas.List.Splits.{slice_split_none, slice_split_first}
use Rattle.std.proofs.lemmas.List.Sums.{fails_before_first}
use Rattle.ann_reader.specs.Lines.{Line, lines_from, lines_of}
use Rattle.ann_reader.specs.LineShows.{seen_line}
use Rattle.ann_reader.proofs.LineLemmas.{line_kept}
use Rattle.ann_reader.proofs.line.lines.Goals as goal

pub loop-lines-preserved : goal.loop-lines-preserved
loop-lines-preserved c =
    let rest : List ℕ = c.loop-lines.rest.now in
    let number : ℕ = c.loop-lines.number in
    let seen : List Line = map seen_line c.loop-lines.lines.items in
    let at : c.place_of-end.result ≡ position_or_len (λ b. b == 10) rest = c.place_of-end.ensures.value ∙ ap (position_or_len (λ b. b == 10)) c.as_bytes.ensures.value in
    let within : c.place_of-end.result < length rest = c.if-end-rest.false in
    let below : position_or_len (λ b. b == 10) rest < length rest = omega (arith, at, within) in
    let line : c.front.result.now ≡ before_first (λ b. b == 10) rest = c.front.ensures ∙ ap (λ n. take n rest) at in
    let more : c.back-rest.result.now ≡ after_first (λ b. b == 10) rest = c.back-rest.ensures ∙ ap (λ n. drop (n + 1) rest) at in
    let left : length (after_first (λ b. b == 10) rest) ≡ length rest - (position_or_len (λ b. b == 10) rest + 1) = length-drop (position_or_len (λ b. b == 10) rest + 1) rest in
    let same : length c.back-rest.result.now ≡ length (after_first (λ b. b == 10) rest) = ap length more in
    let fits : number + length rest ≤ 16777217 = c.loop-lines.invariant.few in
    let cut : slice_split (λ b. b == 10) rest ≡ c.front.result.now ∷ slice_split (λ b. b == 10) c.back-rest.result.now =
    slice_split_first (λ b. b == 10) rest 0 below ∙ sym (ap (λ l. l ∷ slice_split (λ b. b == 10) c.back-rest.result.now) line ∙ ap (λ m. before_first (λ b. b == 10) rest ∷ slice_split (λ b. b == 10) m) more) in
    record {
      few = omega (arith, below, left, same, fits);
      text = c.back-rest.utf8;
      told = ap (λ ls. ls ++ lines_from (number + 1) (slice_split (λ b. b == 10) c.back-rest.result.now)) c.in_ok-keep_line.ensures
          ∙ append_assoc seen (lines_from number (c.front.result.now ∷ [])) (lines_from (number + 1) (slice_split (λ b. b == 10) c.back-rest.result.now))
          ∙ ap (λ ls. seen ++ ls) (line_kept number c.front.result.now (slice_split (λ b. b == 10) c.back-rest.result.now) ∙ sym (ap (lines_from number) cut))
          ∙ c.loop-lines.invariant.told;
    }

pub returns-then-end-rest : goal.returns-then-end-rest
unfolding lines_of
returns-then-end-rest c =
    let rest : List ℕ = c.loop-lines.rest.now in
    let seen : List Line = map seen_line c.loop-lines.lines.items in
    let at : c.place_of-end.result ≡ position_or_len (λ b. b == 10) rest = c.place_of-end.ensures.value ∙ ap (position_or_len (λ b. b == 10)) c.as_bytes.ensures.value in
    let over : length rest ≤ c.place_of-end.result = c.if-end-rest.true in
    let one : slice_split (λ b. b == 10) rest ≡ rest ∷ [] = slice_split_none (λ b. b == 10) rest (λ k d below. fails_before_first (λ b. b == 10) rest k d (omega (arith, at, over, below))) in
    c.in_ok-keep_line.ensures
    ∙ ap (λ l. seen ++ lines_from c.loop-lines.number (l ∷ [])) (c.front.ensures ∙ take_all c.place_of-end.result rest over)
    ∙ sym (ap (λ ls. seen ++ lines_from c.loop-lines.number ls) one)
    ∙ c.loop-lines.invariant.told
