-- SPDX-License-Identifier: MIT
use Rattle.imago_img_checks.proofs.VetSteps.{backing_moved, backing_back, decides_as, decides_no, not_decided}
use Rattle.imago_img_checks.proofs.vet_qcow2.vet_header.Goals as goal

pub returns-then-not-alone : goal.returns-then-not-alone
returns-then-not-alone g c = λ told file read. decides_no (λ all.
    not_decided c.in_ok-alone.alone c.if-not-alone.true c.in_ok-alone.ensures
    (backing_back (g.S.Storage.bytes c.args.storage.now) c.args.head.now read c.requires.len all.0))

pub returns : goal.returns
returns g c = λ told file read. decides_as c.in_ok-tables.tables
    (λ tables. (
      backing_moved (g.S.Storage.bytes c.args.storage.now) c.args.head.now read c.requires.len
          (c.in_ok-alone.ensures.0 c.if-not-alone.false),
      tables,
    ))
    (λ all. all.1)
    (c.in_ok-tables.ensures told file read)
