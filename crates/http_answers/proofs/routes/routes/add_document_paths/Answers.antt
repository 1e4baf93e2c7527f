use Rattle.std.proofs.Common.{refl}
use Rattle.http_answers.proofs.routes.routes.add_document_paths.Goals as goal

pub returns : goal.returns
returns c = rw (c.in_ok-document_path-5.ensures, c.in_ok-document_path-4.ensures, c.in_ok-document_path-3.ensures, c.in_ok-document_path-2.ensures, c.in_ok-document_path.ensures, c.gets_and_puts.ensures, c.posts.ensures, c.posts-2.ensures, c.posts-3.ensures, c.posts-4.ensures) refl
