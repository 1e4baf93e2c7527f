use Rattle.std.proofs.Common.{◌≡◌, ℕ, List, [], ◌∷◌, ◌++◌, option_map, subst}
use Rattle.project_book.specs.Founding.{founding_bytes}
use Rattle.project_book.proofs.FoundingLemmas.{moment_founded, not_the_keeper, refused_so, stands_founded, tells_nothing}
use Rattle.project_book.proofs.book.Book.found_at.Goals as goal

pub returns-in-Err-clause-refused : goal.returns-in-Err-clause-refused
returns-in-Err-clause-refused g c = refused_so c.args.conf c.args.level c.args.roster c.in-Err.fault c.in-Err.ensures.refused

pub returns-in-Err-clause-any_moment : goal.returns-in-Err-clause-any_moment
returns-in-Err-clause-any_moment g c =
    moment_founded g.K.Keeper.kept g.K.Keeper.doubt g.K.Keeper.moment g.K.Keeper.left_since g.met.K.Keeper.left_now c.args.keeper (founding_bytes c.args.conf c.args.level c.args.roster) c.requires.certain

pub returns-in-Err-clause-keeper : goal.returns-in-Err-clause-keeper
returns-in-Err-clause-keeper g c = tells_nothing g.K.Keeper.faults g.K.Keeper.faultless c.args.keeper _ (not_the_keeper c.args.conf c.args.level c.args.roster c.in-Err.fault c.in-Err.ensures.refused)

pub invariant_of-result : goal.invariant_of-result
invariant_of-result g c =
    stands_founded c.args.conf c.args.level c.args.roster c.in-Ok.beginning.log c.in-Ok.beginning.state.state c.in-Ok.beginning.groups c.in-Ok.beginning.tables (g.K.Keeper.kept c.args.keeper) (g.K.Keeper.kept c.append.new.self) (g.K.Keeper.doubt c.append.new.self) c.in-Ok.beginning.entry
    c.in-Ok.ensures.begun.founding c.in-Ok.ensures.begun.log c.in-Ok.ensures.begun.state c.in-Ok.ensures.begun.groups c.in-Ok.ensures.begun.tables c.in-Ok.ensures.begun.entry c.requires.empty
    (subst (λ (e : List ℕ). g.K.Keeper.kept c.append.new.self ≡ option_map (λ (es : List (List ℕ)). es ++ e ∷ []) (g.K.Keeper.kept c.args.keeper)) c.items.ensures c.in-Ok-append.ensures.added) c.in-Ok-append.ensures.no_doubt
