use Rattle.std.proofs.Common.{◌++◌, List, ℕ, Some, length, drop, sym, ◌∙◌, ap, arith}
use Rattle.std.proofs.lemmas.List.{drop_at}
use Rattle.project_journal.specs.JournalFile.{mark}
use Rattle.project_journal.proofs.Creations.{are_entries, claimed, cleared, bodied, marked, zeros_now, bodies_now}
use Rattle.project_journal.proofs.Moments.{started}
use Rattle.project_journal.proofs.creation.lay_out_entries.Goals as goal

pub returns-in_err-body-clause-any_moment : goal.returns-in_err-body-clause-any_moment
returns-in_err-body-clause-any_moment g c = λ empty.
    let d = g.D.Disk in
    let m = g.met.D.Disk in
    let es = c.args.entries.now in
    let are = are_entries es c.requires in
    let old = c.args.disk.now in
    let start = claimed d.holds d.images d.moment d.left_since m.images_told m.counts_now m.only_now es are old empty _ (started d.moment d.left_since d.images m.counts_now m.only_now old (d.images old) (λ x is. is)) in
    start

pub returns-in_err-claim-clause-any_moment : goal.returns-in_err-claim-clause-any_moment
returns-in_err-claim-clause-any_moment g c = λ empty.
    let d = g.D.Disk in
    let m = g.met.D.Disk in
    let es = c.args.entries.now in
    let are = are_entries es c.requires in
    let old = c.args.disk.now in
    let claim = claimed d.holds d.images d.moment d.left_since m.images_told m.counts_now m.only_now es are old empty _ c.claim.ensures.any_moment in
    claim

pub returns-in_err-write_front-clause-any_moment : goal.returns-in_err-write_front-clause-any_moment
returns-in_err-write_front-clause-any_moment g c = λ empty.
    let d = g.D.Disk in
    let m = g.met.D.Disk in
    let es = c.args.entries.now in
    let are = are_entries es c.requires in
    let old = c.args.disk.now in
    let claim = claimed d.holds d.images d.moment d.left_since m.images_told m.counts_now m.only_now es are old empty _ c.claim.ensures.any_moment in
    let first = cleared d.holds d.images d.moment d.left_since m.images_told m.counts_now m.only_now es are old empty _ _ c.claim.ensures.images claim c.write_front.ensures.any_moment in
    first

pub returns-in_err-write_body-clause-any_moment : goal.returns-in_err-write_body-clause-any_moment
returns-in_err-write_body-clause-any_moment g c = λ empty.
    let d = g.D.Disk in
    let m = g.met.D.Disk in
    let es = c.args.entries.now in
    let are = are_entries es c.requires in
    let old = c.args.disk.now in
    let claim = claimed d.holds d.images d.moment d.left_since m.images_told m.counts_now m.only_now es are old empty _ c.claim.ensures.any_moment in
    let first = cleared d.holds d.images d.moment d.left_since m.images_told m.counts_now m.only_now es are old empty _ _ c.claim.ensures.images claim c.write_front.ensures.any_moment in
    let all_zeros = zeros_now d.holds d.images d.moment d.left_since m.images_told m.counts_now m.only_now es are old empty _ _ c.write_front.ensures.told (λ f is. c.in_ok-claim.ensures.empty f (sym c.claim.ensures.holds ∙ is)) c.in_ok-write_front.ensures.ok c.in_ok-write_front.ensures.durable in
    let second = bodied d.holds d.images d.moment d.left_since m.images_told m.counts_now m.only_now es are old empty _ _ _ all_zeros first c.write_body.ensures.any_moment in
    second

pub returns-in_err-write_front-2-clause-any_moment : goal.returns-in_err-write_front-2-clause-any_moment
returns-in_err-write_front-2-clause-any_moment g c = λ empty.
    let d = g.D.Disk in
    let m = g.met.D.Disk in
    let es = c.args.entries.now in
    let are = are_entries es c.requires in
    let old = c.args.disk.now in
    let claim = claimed d.holds d.images d.moment d.left_since m.images_told m.counts_now m.only_now es are old empty _ c.claim.ensures.any_moment in
    let first = cleared d.holds d.images d.moment d.left_since m.images_told m.counts_now m.only_now es are old empty _ _ c.claim.ensures.images claim c.write_front.ensures.any_moment in
    let all_zeros = zeros_now d.holds d.images d.moment d.left_since m.images_told m.counts_now m.only_now es are old empty _ _ c.write_front.ensures.told (λ f is. c.in_ok-claim.ensures.empty f (sym c.claim.ensures.holds ∙ is)) c.in_ok-write_front.ensures.ok c.in_ok-write_front.ensures.durable in
    let second = bodied d.holds d.images d.moment d.left_since m.images_told m.counts_now m.only_now es are old empty _ _ _ all_zeros first c.write_body.ensures.any_moment in
    let all_bodies = bodies_now d.holds d.images d.moment d.left_since m.images_told m.counts_now m.only_now es are old empty _ _ _ (c.as_slice.ensures.value ∙ c.in_ok-body.ensures) c.write_body.ensures.told (λ f is. omega (arith, ap length (all_zeros f (m.read_is_image _ f is)))) c.in_ok-write_body.ensures.ok c.in_ok-write_body.ensures.durable in
    let third = marked d.holds d.images d.moment d.left_since m.images_told m.counts_now m.only_now es are old empty _ _ all_bodies second c.write_front-2.ensures.any_moment in
    third

pub returns-clause-any_moment : goal.returns-clause-any_moment
returns-clause-any_moment g c = λ empty.
    let d = g.D.Disk in
    let m = g.met.D.Disk in
    let es = c.args.entries.now in
    let are = are_entries es c.requires in
    let old = c.args.disk.now in
    let claim = claimed d.holds d.images d.moment d.left_since m.images_told m.counts_now m.only_now es are old empty _ c.claim.ensures.any_moment in
    let first = cleared d.holds d.images d.moment d.left_since m.images_told m.counts_now m.only_now es are old empty _ _ c.claim.ensures.images claim c.write_front.ensures.any_moment in
    let all_zeros = zeros_now d.holds d.images d.moment d.left_since m.images_told m.counts_now m.only_now es are old empty _ _ c.write_front.ensures.told (λ f is. c.in_ok-claim.ensures.empty f (sym c.claim.ensures.holds ∙ is)) c.in_ok-write_front.ensures.ok c.in_ok-write_front.ensures.durable in
    let second = bodied d.holds d.images d.moment d.left_since m.images_told m.counts_now m.only_now es are old empty _ _ _ all_zeros first c.write_body.ensures.any_moment in
    let all_bodies = bodies_now d.holds d.images d.moment d.left_since m.images_told m.counts_now m.only_now es are old empty _ _ _ (c.as_slice.ensures.value ∙ c.in_ok-body.ensures) c.write_body.ensures.told (λ f is. omega (arith, ap length (all_zeros f (m.read_is_image _ f is)))) c.in_ok-write_body.ensures.ok c.in_ok-write_body.ensures.durable in
    let third = marked d.holds d.images d.moment d.left_since m.images_told m.counts_now m.only_now es are old empty _ _ all_bodies second c.write_front-2.ensures.any_moment in
    third

pub returns-clause-ok : goal.returns-clause-ok
returns-clause-ok g c = λ f is.
    let held = c.claim.ensures.holds ∙ is in
    let nothing = c.in_ok-claim.ensures.empty f is in
    let first = c.in_ok-write_front.ensures.ok f held in
    let body = c.in_ok-write_body.ensures.ok _ first (omega (arith, ap (λ (l : List ℕ). length (drop 8 l)) nothing)) in
    c.in_ok-write_front-2.ensures.ok _ body.1 ∙ ap (λ (l : List ℕ). Some (mark ++ l)) (drop_at body.0 _ 8 body.2 ∙ c.as_slice.ensures.value ∙ c.in_ok-body.ensures)
