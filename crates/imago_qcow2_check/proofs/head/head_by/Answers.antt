-- SPDX-License-Identifier: MIT
use Rattle.std.proofs.Common.{◌*◌, ◌∙◌, ap, refl, subst, Result}
use Rattle.std.specs.Prelude.{IsOk}
use Rattle.imago_storage.specs.declared.error.Error.{Error}
use Rattle.imago_qcow2.specs.declared.header.Header.{Header}
use Rattle.imago_qcow2.specs.Numbers.{be32}
use Rattle.imago_qcow2_check.proofs.head.head_by.Goals as goal

pub returns-clause-says : goal.returns-clause-says
returns-clause-says c =
    let s = c.in-Ok.ensures.sound in
    let cluster = c.cluster_size-cluster.ensures ∙ s.cluster in
    record {
      cluster = cluster;
      version = c.version.ensures ∙ s.version;
      order = c.order_of-order.ensures;
      blocks_start = c.number64-blocks_start.ensures;
      blocks_length = ap (λ k. k * c.cluster_size-cluster.result) c.number32.ensures ∙ ap (λ k. be32 c.args.head.now 56 * k) cluster;
      l1_start = c.number64.ensures;
      l1_count = c.number32-l1_count.ensures;
      snapshots_start = c.number64-snapshots_start.ensures;
      snapshots_count = c.number32-snapshots_count.ensures;
    }

pub returns-clause-header : goal.returns-clause-header
returns-clause-header c =
    subst (λ (x : Result Header Error). IsOk x) c.in-Ok.ensures.header refl
