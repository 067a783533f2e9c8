-- SPDX-License-Identifier: MIT
use Rattle.std.proofs.Common.{◌≡◌, ◌≤◌, ◌∙◌, sym, length, arith}
use Rattle.imago_storage.specs.Bytes.{IsReadAt}
use Rattle.imago_img_files.proofs.DescribedSteps.{below_read, features_read}
use Rattle.imago_img_files.proofs.qcow2_info.names_in.Goals as goal

pub returns : goal.returns
returns g c = λ bytes has none.
    let cluster = c.in_ok-cluster.cluster.items in
    let r : IsReadAt bytes 0 cluster = c.in_ok-cluster.ensures.read bytes has in
    let len : 112 ≤ length cluster = omega (arith, c.in_ok-cluster.ensures.len) in
    let same : c.deref.result.now ≡ cluster = c.deref.ensures.value in
    let head : IsReadAt bytes 0 c.deref.result.now = rw same r in
    let whole : 112 ≤ length c.deref.result.now = rw same len in
    record {
      below = below_read bytes cluster r len (c.in_ok-below.ensures none);
      no_data_file = sym (features_read bytes c.deref.result.now head whole) ∙ sym c.has_data_file-is_used.ensures
          ∙ c.in_ok-refuse_data_file.ensures none;
    }
