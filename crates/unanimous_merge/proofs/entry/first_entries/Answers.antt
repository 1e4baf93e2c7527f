use Rattle.std.proofs.Common.{◌≡◌, false, true, length, length-set, get_or, ap, ◌∙◌}
use Rattle.unanimous_merge.proofs.EntryLemmas.{firsts_kept, firsts_put, seen_kept, seen_put}
use Rattle.unanimous_merge.proofs.entry.first_entries.Goals as goal
use Rattle.unanimous_merge.proofs.entry.first_entries.Goals.{then-not-index+in_ok-push, else-not-index}

pub loop-entry-preserved : goal.loop-entry-preserved
loop-entry-preserved c =
    let entries = c.args.entries.now in
    let i = c.loop-entry.entry-index in
    let e = c.entry-item.result in
    let seen = c.loop-entry.seen.items in
    let here = c.index.result.now in
    let kept = c.loop-entry.invariant in
    elim c.if-not-index.branch [
      | then-not-index+in_ok-push w ↦
          let new : here ≡ false = w.if-not-index.true in
          record {
            long = ap (λ v. length v.items) w.seen-is ∙ length-set seen e.place true ∙ kept.long;
            seen = λ q. ap (λ v. get_or v.items q false) w.seen-is ∙ seen_put entries i e c.loop-entry-test.true c.entry-item.is c.args.count c.requires seen kept.long kept.seen here c.index.ensures q;
            firsts = ap (λ v. v.items) w.firsts-is ∙ firsts_put entries i e c.loop-entry-test.true c.entry-item.is c.args.count c.requires seen kept.long kept.seen here c.index.ensures new c.loop-entry.firsts.items w.push.new.self.items kept.firsts w.in_ok-push.ensures.items;
          }
      | else-not-index w ↦
          let old : here ≡ true = w.if-not-index.false in
          record {
            long = ap (λ v. length v.items) w.seen-is ∙ kept.long;
            seen = λ q. ap (λ v. get_or v.items q false) w.seen-is ∙ seen_kept entries i e c.loop-entry-test.true c.entry-item.is c.args.count c.requires seen kept.long kept.seen here c.index.ensures old q;
            firsts = ap (λ v. v.items) w.firsts-is ∙ firsts_kept entries i e c.loop-entry-test.true c.entry-item.is c.args.count c.requires seen kept.long kept.seen here c.index.ensures old c.loop-entry.firsts.items kept.firsts;
          }
    ]
