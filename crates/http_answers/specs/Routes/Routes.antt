-- The table of routes: what stands at each path, and what each method asks there.
use Rattle.std.specs.Prelude.{ℕ, List, [], ◌∷◌, Option, Some, None, Result, Ok, Err, is_none, option_map, codes, bytes_eq, if◌then◌else◌}
use Rattle.matchit.specs.Rows.{RowsOf}
use Rattle.matchit.specs.Order.{placed}
use Rattle.matchit.specs.Route.{Scan, parse_route}
use Rattle.matchit.specs.Router.{RouteOf, route_from, nearest}
use Rattle.matchit.specs.Seek.{first}
use Rattle.matchit.specs.declared.error.InsertError.{InsertError}
use Rattle.http_answers.specs.declared.routes.methods.Methods.{Methods}
use Rattle.http_answers.specs.declared.routes.resource.Resource.{Resource}
use Rattle.http_answers.specs.declared.routes.resource.Resource.TheVariants as of
use Rattle.http_answers.specs.declared.routes.route.ProjectRoute.TheVariants as project
use Rattle.http_answers.specs.declared.routes.route.DocumentRoute.TheVariants as document
use Rattle.http_answers.specs.declared.routes.route.LayerRoute.TheVariants as layer
use Rattle.http_answers.specs.declared.routes.route.SnapshotRoute.TheVariants as snapshot
use Rattle.http_answers.specs.declared.routes.route.DeskRoute.TheVariants as desk

-- ---- methods (RFC 9110, section 9)

-- a path that is only read
abbrev pub gets : {R : Type 0} → R → Methods R
gets route = record { get = Some route; put = None; post = None }

-- a path at which only something is done
abbrev pub posts : {R : Type 0} → R → Methods R
posts route = record { get = None; put = None; post = Some route }

-- a path that is read and written
abbrev pub gets_and_puts : {R : Type 0} → R → R → Methods R
gets_and_puts get put = record { get = Some get; put = Some put; post = None }

-- what a method asks at a path: HEAD asks what GET does, and its answer goes without a body
abbrev pub asked_by : {R : Type 0} → Methods R → List ℕ → Option R
asked_by methods method =
    if bytes_eq method (codes "GET") then methods.get
    else (if bytes_eq method (codes "HEAD") then methods.get
    else (if bytes_eq method (codes "PUT") then methods.put
    else (if bytes_eq method (codes "POST") then methods.post else None)))

-- ---- the table

-- a path, with names for its parameters in braces, and what stands there
pub record Line : Type 0 where
  pub path : List ℕ
  pub resource : Resource

-- a line of the table
abbrev pub line : List ℕ → Resource → Line
line path resource = record { path = path; resource = resource }

-- the paths of the project itself
abbrev pub project_lines : List Line
project_lines =
    line (codes "/conf") (of.Project (gets project.Conf))
    ∷ line (codes "/docs") (of.Project (gets project.Documents))
    ∷ line (codes "/agreement/pairs") (of.Project (gets project.Pairs))
    ∷ line (codes "/agreement/alpha") (of.Project (gets project.Alpha))
    ∷ line (codes "/progress") (of.Project (gets project.Progress))
    ∷ line (codes "/snapshots") (of.Project (gets project.Snapshots))
    ∷ line (codes "/roster") (of.Project (gets project.Roster))
    ∷ []

-- the paths of a document `d`
abbrev pub document_lines : List Line
document_lines =
    line (codes "/docs/{d}/text") (of.Document (gets_and_puts document.ReadText document.AddText))
    ∷ line (codes "/docs/{d}/checkout") (of.Document (posts document.Checkout))
    ∷ line (codes "/docs/{d}/takeover") (of.Document (posts document.TakeOver))
    ∷ line (codes "/docs/{d}/finish") (of.Document (posts document.Finish))
    ∷ line (codes "/docs/{d}/snapshots") (of.Document (posts document.Snap))
    ∷ []

-- the paths of the layer of an annotator `a` on a document `d`
abbrev pub layer_lines : List Line
layer_lines =
    line (codes "/docs/{d}/layers/{a}") (of.Layer (gets layer.Read))
    ∷ line (codes "/docs/{d}/layers/{a}/reopen") (of.Layer (posts layer.Reopen))
    ∷ line (codes "/docs/{d}/layers/{a}/ignore") (of.Layer (posts layer.Ignore))
    ∷ line (codes "/docs/{d}/layers/{a}/readmit") (of.Layer (posts layer.Readmit))
    ∷ []

-- the paths of the snapshot number `n`
abbrev pub snapshot_lines : List Line
snapshot_lines =
    line (codes "/snapshots/{n}/items") (of.Snapshot (gets snapshot.Items))
    ∷ line (codes "/snapshots/{n}/curated") (of.Snapshot (gets snapshot.Curated))
    ∷ line (codes "/snapshots/{n}/decisions") (of.Snapshot (posts snapshot.Decide))
    ∷ line (codes "/snapshots/{n}/undecisions") (of.Snapshot (posts snapshot.Undecide))
    ∷ []

-- the paths of the desk that a connection holds
abbrev pub desk_lines : List Line
desk_lines =
    line (codes "/desk") (of.Desk (gets desk.Show))
    ∷ line (codes "/desk/do") (of.Desk (posts desk.Do))
    ∷ line (codes "/desk/undo") (of.Desk (posts desk.Undo))
    ∷ line (codes "/desk/redo") (of.Desk (posts desk.Redo))
    ∷ line (codes "/desk/load") (of.Desk (posts desk.Load))
    ∷ line (codes "/desk/commit") (of.Desk (posts desk.Commit))
    ∷ line (codes "/desk/park") (of.Desk (posts desk.Park))
    ∷ []

-- ---- the table as `matchit` holds it

-- paths that a router holds, each with what stands there
abbrev pub Held : Type 0
Held = RowsOf (RouteOf Resource)

-- one path more, in its place; not one that spells no path, nor one that conflicts with a path that is held
abbrev pub with_read : Result Scan InsertError → Resource → Held → Held
with_read (Ok read) resource held = if is_none (nearest read.pattern held) then placed (read.pattern, route_from read resource) held else held
with_read (Err fault) resource held = held

-- a line more
abbrev pub with_line : Held → Line → Held
with_line held added = with_read (parse_route added.path) added.resource held

-- lines more, one after another
abbrev pub with_lines : Held → List Line → Held
with_lines held [] = held
with_lines held (added ∷ others) = with_lines (with_line held added) others

-- all lines
unfoldable pub table : Held
table = with_lines (with_lines (with_lines (with_lines (with_lines [] project_lines) document_lines) layer_lines) snapshot_lines) desk_lines

-- what stands at a path: the line that a router of all lines finds
abbrev pub resource_at : List ℕ → Option Resource
resource_at path = option_map (λ found. found.value) (first table path)
