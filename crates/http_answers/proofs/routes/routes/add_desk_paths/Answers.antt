use Rattle.std.proofs.Common.{refl}
use Rattle.http_answers.proofs.routes.routes.add_desk_paths.Goals as goal

pub returns : goal.returns
returns c = rw (c.in_ok-desk_path-7.ensures, c.in_ok-desk_path-6.ensures, c.in_ok-desk_path-5.ensures, c.in_ok-desk_path-4.ensures, c.in_ok-desk_path-3.ensures, c.in_ok-desk_path-2.ensures, c.in_ok-desk_path.ensures, c.gets.ensures, c.posts.ensures, c.posts-2.ensures, c.posts-3.ensures, c.posts-4.ensures, c.posts-5.ensures, c.posts-6.ensures) refl
