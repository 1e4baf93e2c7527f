use Rattle.std.proofs.Common.{refl}
use Rattle.http_answers.proofs.routes.routes.add_layer_paths.Goals as goal

pub returns : goal.returns
returns c = rw (c.in_ok-layer_path-4.ensures, c.in_ok-layer_path-3.ensures, c.in_ok-layer_path-2.ensures, c.in_ok-layer_path.ensures, c.gets.ensures, c.posts.ensures, c.posts-2.ensures, c.posts-3.ensures) refl
