-- SPDX-License-Identifier: MIT
use Rattle.std.proofs.Common.{◌∙◌}
use Rattle.imago_img_tests.specs.MemoryFiles.{holds}
use Rattle.imago_img_tests.proofs.LeftOver.{left_gone}
use Rattle.imago_img_tests.proofs.memory_host.calls.MemoryHostHost.remove_left_over.Goals as goal

pub returns-clause-gone : goal.returns-clause-gone
returns-clause-gone c =
    left_gone c.args.path.now c.deref-2.result.now c.args.self.now.files.items c.remove_all.new.files.items
    c.args.self.now.unfinished (holds c.args.self.now) (c.deref-2.ensures ∙ c.in_ok-left.ensures) c.remove_all.ensures
