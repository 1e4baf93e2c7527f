use Rattle.std.proofs.Common.{rules, ◌≡◌, ◌+◌, ◌≤◌, ◌∙◌, ap, subst, min, length, drop, arith}
use Rattle.mark_base.specs.FailList.{CountsCall}
use Rattle.mark_base.specs.PieceSizes.{next_size}
use Rattle.mark_base.proofs.StreamLemmas.{taken_front, taken_none, sizes_after, given_count}
use Rattle.mark_base.proofs.memory_source.MemorySourceSource.read.Goals as goal

pub returns-clause-bytes : goal.returns-clause-bytes
returns-clause-bytes c =
    let source = c.args.self.now in
    let count = c.copy_front-count in
    let most = c.next_size-most.result in (
      taken_front source.taken count.result most source.bytes c.args.room.now count.new.room (search rules) (search rules) (search rules),
      λ none room. taken_none source.taken count.result most source.bytes c.args.room.now (search rules) c.next_size-most.ensures.some (search rules) (search rules) none,
    )

pub returns-clause-listed : goal.returns-clause-listed
returns-clause-listed c =
    let source = c.args.self.now in
    let count = c.copy_front-count in
    let place : c.saturating_add-self.result ≡ min (source.pieces + 1) 18446744073709551615 = c.saturating_add-self.ensures in
    let few : length source.sizes.items ≤ 18446744073709551615 = omega (arith, source.sizes.ok.0) in
    let size : c.next_size-most.result ≡ next_size (drop source.pieces source.sizes.items) =
    c.next_size-most.ensures.size ∙ ap (λ xs. next_size (drop source.pieces xs)) c.deref.ensures.value in
    record {
      called = subst (λ b. CountsCall source.fails b c.fails.new.self) c.if-fails.false c.fails.ensures.called;
      sizes = sizes_after source.sizes.items source.pieces c.saturating_add-self.result few place;
      count = given_count source.taken count.result c.next_size-most.result (next_size (drop source.pieces source.sizes.items)) (length c.args.room.now) source.bytes (search rules) size;
    }
