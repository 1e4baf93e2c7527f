use Rattle.std.proofs.Common.{◌≡◌, ◌⊎◌, ℕ, List, [], ◌∷◌, ◌++◌, ◌<◌, Some, Err, option_map, refl, sym, ◌∙◌, ap, subst}
use Rattle.project_machine.specs.Requests.{Happened}
use Rattle.project_machine.specs.Asking.{StaysOrGoes}
use Rattle.project_machine.specs.History.{after}
use Rattle.project_state.specs.Acting.{performed}
use Rattle.project_state.specs.Values.{happened_of}
use Rattle.project_book.specs.Keeping.{BookValue, Follows, Stands}
use Rattle.project_book.proofs.BookLemmas.{along, along_still, keeper_tells, moment_nothing, place_room, said_by, stands_next, stands_still}
use Rattle.project_book.proofs.book.Book.keep.Goals as goal

pub returns-in_err-tabling-clause-any_moment : goal.returns-in_err-tabling-clause-any_moment
returns-in_err-tabling-clause-any_moment g c =
    moment_nothing g.K.Keeper.kept g.K.Keeper.doubt g.K.Keeper.moment g.K.Keeper.left_since g.met.K.Keeper.left_now c.self.inside.keeper c.args.self.now.keeper c.args.kept.entry (sym (ap (λ (b : BookValue _). b.keeper) c.self.view_is))

pub invariant_of-self-in-Err : goal.invariant_of-self-in-Err
invariant_of-self-in-Err g c =
    stands_still c.self.inside.log c.args.kept c.self.inside.state.state c.make_ready.new.state.state c.self.inside.groups c.self.inside.tables c.make_ready.new.tables
    (g.K.Keeper.kept c.self.inside.keeper) (g.K.Keeper.kept c.append.new.self) (g.K.Keeper.doubt c.self.inside.keeper) (g.K.Keeper.doubt c.append.new.self)
    c.self.invariant (subst (λ (b : BookValue _). Follows b.log c.args.kept) (sym c.self.view_is) c.requires.follows) c.make_ready.ensures.tables c.make_ready.ensures.state c.in-Err.ensures.refused
    (subst (λ (e : List ℕ). StaysOrGoes (g.K.Keeper.doubt c.self.inside.keeper) (g.K.Keeper.doubt c.append.new.self) ⊎ (g.K.Keeper.doubt c.append.new.self ≡ Some e)) c.items.ensures
    (said_by c.append.result c.in-Err.fault (g.K.Keeper.doubt c.self.inside.keeper) (g.K.Keeper.doubt c.append.new.self) c.items.result.now c.in-Err.is c.append.ensures.doubt c.append.ensures.doubt_memory))

pub returns-in-Err-clause-keeper : goal.returns-in-Err-clause-keeper
returns-in-Err-clause-keeper g c =
    keeper_tells g.K.Keeper.faults g.K.Keeper.faultless c.self.inside.keeper c.args.self.now.keeper c.append.new.self c.append.result (Err c.in-Err.fault) (sym (ap (λ (b : BookValue _). b.keeper) c.self.view_is)) c.in-Err.is
    c.append.ensures.later c.append.ensures.cause c.append.ensures.faultless_stays c.append.ensures.faultless_not_failed

pub returns-then-count-ge-MOST_CHANGES-clause-tables : goal.returns-then-count-ge-MOST_CHANGES-clause-tables
returns-then-count-ge-MOST_CHANGES-clause-tables g c = along_still c.args.self.now.log c.args.self.now.log c.args.self.now.tables c.args.self.now.tables c.args.steps.now refl refl

pub returns-in_err-tabling-clause-tables : goal.returns-in_err-tabling-clause-tables
returns-in_err-tabling-clause-tables g c =
    along_still c.args.self.now.log c.self.inside.log c.args.self.now.tables c.make_ready.new.tables c.args.steps.now
    (ap (λ (b : BookValue _). b.log) c.self.view_is)
    (subst (λ (b : BookValue _). c.make_ready.new.tables ≡ record b.tables { spare = c.make_ready.new.tables.spare }) c.self.view_is c.make_ready.ensures.tables)

pub returns-in-Err-clause-tables : goal.returns-in-Err-clause-tables
returns-in-Err-clause-tables g c =
    along_still c.args.self.now.log c.self.inside.log c.args.self.now.tables c.make_ready.new.tables c.args.steps.now
    (ap (λ (b : BookValue _). b.log) c.self.view_is)
    (subst (λ (b : BookValue _). c.make_ready.new.tables ≡ record b.tables { spare = c.make_ready.new.tables.spare }) c.self.view_is c.make_ready.ensures.tables)

pub perform-requires-clause-place : goal.perform-requires-clause-place
perform-requires-clause-place g c =
    place_room c.self.inside.log c.self.inside.state.state c.make_ready.new.state.state c.self.inside.groups c.self.inside.tables (g.K.Keeper.kept c.self.inside.keeper) (g.K.Keeper.doubt c.self.inside.keeper)
    c.self.invariant c.make_ready.ensures.state

pub invariant_of-self-2 : goal.invariant_of-self-2
invariant_of-self-2 g c =
    subst (λ (log : List Happened). Stands log c.perform.new.self.state c.self.inside.groups c.apply.new.tables (g.K.Keeper.kept c.append.new.self) (g.K.Keeper.doubt c.append.new.self))
    (sym c.push.ensures)
    (stands_next c.self.inside.log c.args.kept c.self.inside.state.state c.perform.new.self.state c.self.inside.groups c.self.inside.tables c.make_ready.new.tables c.apply.new.tables
    (g.K.Keeper.kept c.self.inside.keeper) (g.K.Keeper.kept c.append.new.self) (g.K.Keeper.doubt c.self.inside.keeper) (g.K.Keeper.doubt c.append.new.self) c.in_ok-tabling.tabling
    c.self.invariant (subst (λ (b : BookValue _). Follows b.log c.args.kept) (sym c.self.view_is) c.requires.follows) (subst (λ n. n < 4611686018427387904) c.count.ensures c.if-count-ge-MOST_CHANGES.false)
    c.in_ok-tabling.ensures.tabling c.make_ready.ensures.tables c.apply.ensures.tabled (c.perform.ensures ∙ ap (performed c.args.kept.act) c.make_ready.ensures.state)
    (subst (λ (e : List ℕ). g.K.Keeper.kept c.append.new.self ≡ option_map (λ (es : List (List ℕ)). es ++ e ∷ []) (g.K.Keeper.kept c.self.inside.keeper)) c.items.ensures c.in-Ok.ensures.added) c.in-Ok.ensures.no_doubt)

pub returns-clause-tables : goal.returns-clause-tables
returns-clause-tables g c =
    let was : c.self.inside.log ≡ c.args.self.now.log = ap (λ (b : BookValue _). b.log) c.self.view_is in
    along c.args.self.now.log c.push.new.self c.args.kept c.self.inside.state.state c.in_ok-tabling.tabling c.args.self.now.tables c.make_ready.new.tables c.apply.new.tables c.args.steps.now c.apply.new.steps
    c.requires.follows
    (c.push.ensures ∙ ap (λ (log : List Happened). log ++ happened_of c.args.kept.change ∷ []) was)
    (c.self.invariant.state_is ∙ ap after was) c.in_ok-tabling.ensures.tabling
    (subst (λ (b : BookValue _). c.make_ready.new.tables ≡ record b.tables { spare = c.make_ready.new.tables.spare }) c.self.view_is c.make_ready.ensures.tables)
    c.apply.ensures.tabled c.apply.ensures.steps
