-- What a method and a path lead to.
use Rattle.std.specs.Prelude.{ℕ, List, Option, Some, None}
use Rattle.std.specs.Option.{option_map_or}
use Rattle.http_answers.specs.declared.routes.methods.Methods.{Methods}
use Rattle.http_answers.specs.declared.routes.resource.Resource.{Resource}
use Rattle.http_answers.specs.declared.routes.resource.Resource.TheVariants as of
use Rattle.http_answers.specs.declared.routes.found.Found.{Found}
use Rattle.http_answers.specs.declared.routes.found.Found.TheVariants as found
use Rattle.http_answers.specs.declared.routes.route.Route.{Route}
use Rattle.http_answers.specs.declared.routes.route.Route.TheVariants.{Book, Desk}
use Rattle.http_answers.specs.declared.routes.route.BookRoute.TheVariants.{Project, Document, Layer, Snapshot}
use Rattle.http_answers.specs.declared.routes.route.ProjectRoute.{ProjectRoute}
use Rattle.http_answers.specs.declared.routes.route.DocumentRoute.{DocumentRoute}
use Rattle.http_answers.specs.declared.routes.route.LayerRoute.{LayerRoute}
use Rattle.http_answers.specs.declared.routes.route.SnapshotRoute.{SnapshotRoute}
use Rattle.http_answers.specs.declared.routes.route.DeskRoute.{DeskRoute}
use Rattle.http_answers.specs.Routes.Routes.{asked_by, resource_at}
use Rattle.http_answers.specs.Routes.Segments.{segments, slug_at, number_at}

-- ---- what a method leads to, once the names in the path are read: a name that does not read has no route, whatever the method

-- a route that a method asks, or none
abbrev pub by_method : {R : Type 0} → (R → Route) → Methods R → List ℕ → Found
by_method route methods method = option_map_or (λ asked. found.At (route asked)) (asked_by methods method) found.NoMethod

-- a path that names nothing
abbrev pub at_project : Methods ProjectRoute → List ℕ → Found
at_project methods method = by_method (λ asked. Book (Project asked)) methods method

-- a path that names a document
abbrev pub at_document : Methods DocumentRoute → Option (List ℕ) → List ℕ → Found
at_document methods None method = found.NoRoute
at_document methods (Some doc) method = by_method (λ asked. Book (Document asked doc)) methods method

-- a path that names a document and an annotator
abbrev pub at_layer : Methods LayerRoute → Option (List ℕ) → Option (List ℕ) → List ℕ → Found
at_layer methods None who method = found.NoRoute
at_layer methods (Some doc) None method = found.NoRoute
at_layer methods (Some doc) (Some who) method = by_method (λ asked. Book (Layer asked doc who)) methods method

-- a path that names a snapshot
abbrev pub at_snapshot : Methods SnapshotRoute → Option ℕ → List ℕ → Found
at_snapshot methods None method = found.NoRoute
at_snapshot methods (Some number) method = by_method (λ asked. Book (Snapshot asked number)) methods method

-- a path of the desk
abbrev pub at_desk : Methods DeskRoute → List ℕ → Found
at_desk methods method = by_method Desk methods method

-- ---- what a method and a path lead to

-- what stands at a path, by a method: behind the empty segment and `docs` or `snapshots` stands the document or the number, and behind `layers` the annotator
abbrev pub found_at : List (List ℕ) → List ℕ → Resource → Found
found_at pieces method (of.Project methods) = at_project methods method
found_at pieces method (of.Document methods) = at_document methods (slug_at pieces 2) method
found_at pieces method (of.Layer methods) = at_layer methods (slug_at pieces 2) (slug_at pieces 4) method
found_at pieces method (of.Snapshot methods) = at_snapshot methods (number_at pieces 2) method
found_at pieces method (of.Desk methods) = at_desk methods method

-- what a method and a path lead to
abbrev pub found_by : (method path : List ℕ) → Found
found_by method path = option_map_or (found_at (segments path) method) (resource_at path) found.NoRoute
