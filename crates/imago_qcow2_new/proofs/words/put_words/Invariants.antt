-- SPDX-License-Identifier: MIT
use Rattle.std.proofs.Common.{◌≡◌, ◌-◌, ◌≤◌}
use Rattle.imago_copy.specs.Appended.{IsAppended}
use Rattle.imago_qcow2_new.specs.Words.{words_from}
use Rattle.imago_qcow2_new.proofs.words.put_words.Given as goal

abbrev pub invariant-loop-done : goal.invariant-loop-done
invariant-loop-done g l = record {
  within : l.done ≤ l.count;
  same : g.T.Target.made_for l.target ≡ g.T.Target.made_for l.initial.target;
  put : IsAppended (g.T.Target.contents l.initial.target) (g.T.Target.contents l.target) (words_from (g.W.Words.word l.words) l.from l.done);
}

abbrev pub decreases-loop-done : goal.decreases-loop-done
decreases-loop-done g l = l.count - l.done
