use Rattle.std.proofs.Common.{◌≡◌, ◌∙◌, sym, ap, ◌++◌, ◌∷◌, [], Some, List, ℕ, length, vec_len, rules}
use Rattle.named_disks.specs.MemoryNames.{place_of, first_bytes, has_name}
use Rattle.named_disks.proofs.DiskLemmas.{put_last, same_bytes, has_name_other, has_name_still}
use Rattle.named_disks.proofs.memory_disks.place_for.Goals as goal

-- the disks, and behind them one of length 0 with the name
pushed : (c : goal.In_ok-push) → c.push.new.self.items ≡ c.args.disks.now.items ++ (c.args.name.now, c.empty_disk.result) ∷ []
pushed c = c.in_ok-push.ensures.items ∙ ap (λ (name : List ℕ). c.args.disks.now.items ++ (name, c.empty_disk.result) ∷ []) c.in_ok-of.ensures

pub returns-clause-place : goal.returns-clause-place
returns-clause-place c =
    let size : vec_len c.args.disks.now ≡ length c.args.disks.now.items = search rules in
    ap (λ disks. place_of disks c.args.name.now) (pushed c) ∙ put_last c.args.disks.now.items c.args.name.now c.empty_disk.result (ap (λ disks. place_of disks c.args.name.now) (sym c.deref.ensures.value) ∙ sym c.place_of.ensures ∙ c.in_default.is)
    ∙ ap Some (sym (c.len-place.ensures ∙ size))

pub returns-clause-same : goal.returns-clause-same
returns-clause-same c other = ap (λ disks. first_bytes disks other) (pushed c) ∙ same_bytes c.args.disks.now.items c.args.name.now c.empty_disk.result other c.empty_disk.ensures.bytes

pub returns-clause-names : goal.returns-clause-names
returns-clause-names c out known name among =
    ap (λ disks. has_name disks name) (pushed c) ∙ has_name_still c.args.disks.now.items (c.args.name.now, c.empty_disk.result) name (known name among)

pub returns-clause-has : goal.returns-clause-has
returns-clause-has c other differ = ap (λ disks. has_name disks other) (pushed c) ∙ has_name_other c.args.disks.now.items c.args.name.now c.empty_disk.result other differ
