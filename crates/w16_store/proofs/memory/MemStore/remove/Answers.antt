use Rattle.w16_store.proofs.Finding.{with_removed}
use Rattle.w16_store.proofs.memory.MemStore.remove.Goals as goal

pub returns-clause-gone : goal.returns-clause-gone
returns-clause-gone c = λ t. rw (c.drop_named.ensures, ← c.self.view_is) (with_removed c.args.name.now c.self.inside.files.items)
