use Rattle.std.proofs.Common.{◌≡◌, ◌+◌, arith, ap, sym, ◌∙◌, cond}
use Rattle.std.specs.Option.{is_some}
use Rattle.kappa_alpha.specs.Columns.{raters_in, weight}
use Rattle.kappa_alpha.specs.Counted.{IsCount, adds_beside, weights_at}
use Rattle.kappa_alpha.proofs.Counts.{adds_set, is_count_of, beside_absent, move_within}
use Rattle.kappa_alpha.proofs.label_moves.move_label.Goals as goal

pub shift_label-requires-clause-enough : goal.shift_label-requires-clause-enough
shift_label-requires-clause-enough g c = λ x h.
    let mb : c.weight_of-weight_before.result ≡ weight (raters_in c.args.others.now + cond (is_some c.args.before) 1 0) = c.weight_of-weight_before.ensures.exact ∙ ap weight c.raters_with.ensures in
    let ma : c.weight_of-weight_after.result ≡ weight (raters_in c.args.others.now + cond (is_some c.args.after) 1 0) = c.weight_of-weight_after.ensures.exact ∙ ap weight c.raters_with-2.ensures in
    let sb = adds_set x c.args.tallies.now.raters c.args.tallies.now.coincidences.width c.args.others.now c.args.rater c.weight_of-weight_before.result c.args.before h c.requires.whole c.requires.rater_in c.requires.out c.requires.few mb in
    let sa = adds_set x c.args.tallies.now.raters c.args.tallies.now.coincidences.width c.args.others.now c.args.rater c.weight_of-weight_after.result c.args.after h c.requires.whole c.requires.rater_in c.requires.out c.requires.few ma in
    let pb : adds_beside c.present.result x c.args.rater c.args.before c.args.others.now ≡ adds_beside (weights_at c.weight_of-weight_before.result) x c.args.rater c.args.before c.args.others.now = ap (λ v. adds_beside v x c.args.rater c.args.before c.args.others.now) c.present.ensures.exact in
    let ob : adds_beside c.absent.result x c.args.rater c.args.before c.args.others.now ≡ 0 = ap (λ v. adds_beside v x c.args.rater c.args.before c.args.others.now) c.absent.ensures ∙ beside_absent x c.args.rater c.args.before c.args.others.now in
    omega (arith, c.requires.enough x h, sb, pb)

pub shift_label-requires-clause-room : goal.shift_label-requires-clause-room
shift_label-requires-clause-room g c = λ x h.
    let mb : c.weight_of-weight_before.result ≡ weight (raters_in c.args.others.now + cond (is_some c.args.before) 1 0) = c.weight_of-weight_before.ensures.exact ∙ ap weight c.raters_with.ensures in
    let ma : c.weight_of-weight_after.result ≡ weight (raters_in c.args.others.now + cond (is_some c.args.after) 1 0) = c.weight_of-weight_after.ensures.exact ∙ ap weight c.raters_with-2.ensures in
    let sb = adds_set x c.args.tallies.now.raters c.args.tallies.now.coincidences.width c.args.others.now c.args.rater c.weight_of-weight_before.result c.args.before h c.requires.whole c.requires.rater_in c.requires.out c.requires.few mb in
    let sa = adds_set x c.args.tallies.now.raters c.args.tallies.now.coincidences.width c.args.others.now c.args.rater c.weight_of-weight_after.result c.args.after h c.requires.whole c.requires.rater_in c.requires.out c.requires.few ma in
    let pb : adds_beside c.present.result x c.args.rater c.args.before c.args.others.now ≡ adds_beside (weights_at c.weight_of-weight_before.result) x c.args.rater c.args.before c.args.others.now = ap (λ v. adds_beside v x c.args.rater c.args.before c.args.others.now) c.present.ensures.exact in
    let ob : adds_beside c.absent.result x c.args.rater c.args.before c.args.others.now ≡ 0 = ap (λ v. adds_beside v x c.args.rater c.args.before c.args.others.now) c.absent.ensures ∙ beside_absent x c.args.rater c.args.before c.args.others.now in
    omega (arith, c.requires.room x h, ob)

pub reweigh-requires-clause-enough : goal.reweigh-requires-clause-enough
reweigh-requires-clause-enough g c = λ x h1.
    let h : IsCount c.args.tallies.now.raters c.args.tallies.now.coincidences.width x = is_count_of _ _ _ _ x c.shift_label.ensures.shape.numbers c.shift_label.ensures.shape.coincidences h1 in
    let mb : c.weight_of-weight_before.result ≡ weight (raters_in c.args.others.now + cond (is_some c.args.before) 1 0) = c.weight_of-weight_before.ensures.exact ∙ ap weight c.raters_with.ensures in
    let ma : c.weight_of-weight_after.result ≡ weight (raters_in c.args.others.now + cond (is_some c.args.after) 1 0) = c.weight_of-weight_after.ensures.exact ∙ ap weight c.raters_with-2.ensures in
    let sb = adds_set x c.args.tallies.now.raters c.args.tallies.now.coincidences.width c.args.others.now c.args.rater c.weight_of-weight_before.result c.args.before h c.requires.whole c.requires.rater_in c.requires.out c.requires.few mb in
    let sa = adds_set x c.args.tallies.now.raters c.args.tallies.now.coincidences.width c.args.others.now c.args.rater c.weight_of-weight_after.result c.args.after h c.requires.whole c.requires.rater_in c.requires.out c.requires.few ma in
    let pb : adds_beside c.present.result x c.args.rater c.args.before c.args.others.now ≡ adds_beside (weights_at c.weight_of-weight_before.result) x c.args.rater c.args.before c.args.others.now = ap (λ v. adds_beside v x c.args.rater c.args.before c.args.others.now) c.present.ensures.exact in
    let ob : adds_beside c.absent.result x c.args.rater c.args.before c.args.others.now ≡ 0 = ap (λ v. adds_beside v x c.args.rater c.args.before c.args.others.now) c.absent.ensures ∙ beside_absent x c.args.rater c.args.before c.args.others.now in
    let s1 = c.shift_label.ensures.each x h in
    omega (arith, c.requires.enough x h, sb, pb, ob, s1)

pub reweigh-requires-clause-room : goal.reweigh-requires-clause-room
reweigh-requires-clause-room g c = λ x h1.
    let h : IsCount c.args.tallies.now.raters c.args.tallies.now.coincidences.width x = is_count_of _ _ _ _ x c.shift_label.ensures.shape.numbers c.shift_label.ensures.shape.coincidences h1 in
    let mb : c.weight_of-weight_before.result ≡ weight (raters_in c.args.others.now + cond (is_some c.args.before) 1 0) = c.weight_of-weight_before.ensures.exact ∙ ap weight c.raters_with.ensures in
    let ma : c.weight_of-weight_after.result ≡ weight (raters_in c.args.others.now + cond (is_some c.args.after) 1 0) = c.weight_of-weight_after.ensures.exact ∙ ap weight c.raters_with-2.ensures in
    let sb = adds_set x c.args.tallies.now.raters c.args.tallies.now.coincidences.width c.args.others.now c.args.rater c.weight_of-weight_before.result c.args.before h c.requires.whole c.requires.rater_in c.requires.out c.requires.few mb in
    let sa = adds_set x c.args.tallies.now.raters c.args.tallies.now.coincidences.width c.args.others.now c.args.rater c.weight_of-weight_after.result c.args.after h c.requires.whole c.requires.rater_in c.requires.out c.requires.few ma in
    let pb : adds_beside c.present.result x c.args.rater c.args.before c.args.others.now ≡ adds_beside (weights_at c.weight_of-weight_before.result) x c.args.rater c.args.before c.args.others.now = ap (λ v. adds_beside v x c.args.rater c.args.before c.args.others.now) c.present.ensures.exact in
    let ob : adds_beside c.absent.result x c.args.rater c.args.before c.args.others.now ≡ 0 = ap (λ v. adds_beside v x c.args.rater c.args.before c.args.others.now) c.absent.ensures ∙ beside_absent x c.args.rater c.args.before c.args.others.now in
    let s1 = c.shift_label.ensures.each x h in
    omega (arith, c.requires.room x h, sa, ob, s1)

pub shift_label-requires-2-clause-enough : goal.shift_label-requires-2-clause-enough
shift_label-requires-2-clause-enough g c = λ x h2.
    let oa : adds_beside c.absent-2.result x c.args.rater c.args.after c.args.others.now ≡ 0 = ap (λ v. adds_beside v x c.args.rater c.args.after c.args.others.now) c.absent-2.ensures ∙ beside_absent x c.args.rater c.args.after c.args.others.now in
    let pa : adds_beside c.present-2.result x c.args.rater c.args.after c.args.others.now ≡ adds_beside (weights_at c.weight_of-weight_after.result) x c.args.rater c.args.after c.args.others.now = ap (λ v. adds_beside v x c.args.rater c.args.after c.args.others.now) c.present-2.ensures.exact in
    omega (arith, oa)

pub shift_label-requires-2-clause-room : goal.shift_label-requires-2-clause-room
shift_label-requires-2-clause-room g c = λ x h2.
    let h1 : IsCount c.shift_label.new.tallies.raters c.shift_label.new.tallies.coincidences.width x = is_count_of _ _ _ _ x c.reweigh.ensures.shape.numbers c.reweigh.ensures.shape.coincidences h2 in
    let h : IsCount c.args.tallies.now.raters c.args.tallies.now.coincidences.width x = is_count_of _ _ _ _ x c.shift_label.ensures.shape.numbers c.shift_label.ensures.shape.coincidences h1 in
    let mb : c.weight_of-weight_before.result ≡ weight (raters_in c.args.others.now + cond (is_some c.args.before) 1 0) = c.weight_of-weight_before.ensures.exact ∙ ap weight c.raters_with.ensures in
    let ma : c.weight_of-weight_after.result ≡ weight (raters_in c.args.others.now + cond (is_some c.args.after) 1 0) = c.weight_of-weight_after.ensures.exact ∙ ap weight c.raters_with-2.ensures in
    let sb = adds_set x c.args.tallies.now.raters c.args.tallies.now.coincidences.width c.args.others.now c.args.rater c.weight_of-weight_before.result c.args.before h c.requires.whole c.requires.rater_in c.requires.out c.requires.few mb in
    let sa = adds_set x c.args.tallies.now.raters c.args.tallies.now.coincidences.width c.args.others.now c.args.rater c.weight_of-weight_after.result c.args.after h c.requires.whole c.requires.rater_in c.requires.out c.requires.few ma in
    let pb : adds_beside c.present.result x c.args.rater c.args.before c.args.others.now ≡ adds_beside (weights_at c.weight_of-weight_before.result) x c.args.rater c.args.before c.args.others.now = ap (λ v. adds_beside v x c.args.rater c.args.before c.args.others.now) c.present.ensures.exact in
    let ob : adds_beside c.absent.result x c.args.rater c.args.before c.args.others.now ≡ 0 = ap (λ v. adds_beside v x c.args.rater c.args.before c.args.others.now) c.absent.ensures ∙ beside_absent x c.args.rater c.args.before c.args.others.now in
    let s1 = c.shift_label.ensures.each x h in
    let s2 = c.reweigh.ensures.each x h1 in
    let oa : adds_beside c.absent-2.result x c.args.rater c.args.after c.args.others.now ≡ 0 = ap (λ v. adds_beside v x c.args.rater c.args.after c.args.others.now) c.absent-2.ensures ∙ beside_absent x c.args.rater c.args.after c.args.others.now in
    let pa : adds_beside c.present-2.result x c.args.rater c.args.after c.args.others.now ≡ adds_beside (weights_at c.weight_of-weight_after.result) x c.args.rater c.args.after c.args.others.now = ap (λ v. adds_beside v x c.args.rater c.args.after c.args.others.now) c.present-2.ensures.exact in
    omega (arith, c.requires.room x h, c.requires.enough x h, sa, sb, pa, pb, ob, s1, s2)

pub returns-clause-each : goal.returns-clause-each
returns-clause-each g c = λ x h.
    let mb : c.weight_of-weight_before.result ≡ weight (raters_in c.args.others.now + cond (is_some c.args.before) 1 0) = c.weight_of-weight_before.ensures.exact ∙ ap weight c.raters_with.ensures in
    let ma : c.weight_of-weight_after.result ≡ weight (raters_in c.args.others.now + cond (is_some c.args.after) 1 0) = c.weight_of-weight_after.ensures.exact ∙ ap weight c.raters_with-2.ensures in
    let sb = adds_set x c.args.tallies.now.raters c.args.tallies.now.coincidences.width c.args.others.now c.args.rater c.weight_of-weight_before.result c.args.before h c.requires.whole c.requires.rater_in c.requires.out c.requires.few mb in
    let sa = adds_set x c.args.tallies.now.raters c.args.tallies.now.coincidences.width c.args.others.now c.args.rater c.weight_of-weight_after.result c.args.after h c.requires.whole c.requires.rater_in c.requires.out c.requires.few ma in
    let pb : adds_beside c.present.result x c.args.rater c.args.before c.args.others.now ≡ adds_beside (weights_at c.weight_of-weight_before.result) x c.args.rater c.args.before c.args.others.now = ap (λ v. adds_beside v x c.args.rater c.args.before c.args.others.now) c.present.ensures.exact in
    let ob : adds_beside c.absent.result x c.args.rater c.args.before c.args.others.now ≡ 0 = ap (λ v. adds_beside v x c.args.rater c.args.before c.args.others.now) c.absent.ensures ∙ beside_absent x c.args.rater c.args.before c.args.others.now in
    let s1 = c.shift_label.ensures.each x h in
    let h1 : IsCount c.shift_label.new.tallies.raters c.shift_label.new.tallies.coincidences.width x = is_count_of _ _ _ _ x (sym c.shift_label.ensures.shape.numbers) (sym c.shift_label.ensures.shape.coincidences) h in
    let s2 = c.reweigh.ensures.each x h1 in
    let h2 : IsCount c.reweigh.new.tallies.raters c.reweigh.new.tallies.coincidences.width x = is_count_of _ _ _ _ x (sym c.reweigh.ensures.shape.numbers) (sym c.reweigh.ensures.shape.coincidences) h1 in
    let s3 = c.shift_label-2.ensures.each x h2 in
    let oa : adds_beside c.absent-2.result x c.args.rater c.args.after c.args.others.now ≡ 0 = ap (λ v. adds_beside v x c.args.rater c.args.after c.args.others.now) c.absent-2.ensures ∙ beside_absent x c.args.rater c.args.after c.args.others.now in
    let pa : adds_beside c.present-2.result x c.args.rater c.args.after c.args.others.now ≡ adds_beside (weights_at c.weight_of-weight_after.result) x c.args.rater c.args.after c.args.others.now = ap (λ v. adds_beside v x c.args.rater c.args.after c.args.others.now) c.present-2.ensures.exact in
    omega (arith, sa, sb, pa, pb, ob, oa, s1, s2, s3)

pub returns-clause-steps : goal.returns-clause-steps
returns-clause-steps g c =
    let mb : c.weight_of-weight_before.result ≡ weight (raters_in c.args.others.now + cond (is_some c.args.before) 1 0) = c.weight_of-weight_before.ensures.exact ∙ ap weight c.raters_with.ensures in
    let ma : c.weight_of-weight_after.result ≡ weight (raters_in c.args.others.now + cond (is_some c.args.after) 1 0) = c.weight_of-weight_after.ensures.exact ∙ ap weight c.raters_with-2.ensures in
    move_within c.args.steps.now c.shift_label.new.steps c.reweigh.new.steps c.shift_label-2.new.steps (raters_in c.args.others.now) c.weight_of-weight_before.result c.weight_of-weight_after.result c.args.before c.args.after
    c.shift_label.ensures.steps c.reweigh.ensures.steps c.reweigh.ensures.same c.shift_label-2.ensures.steps
    (λ e. mb ∙ ap (λ b. weight (raters_in c.args.others.now + cond b 1 0)) e ∙ sym ma)
