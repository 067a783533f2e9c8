-- SPDX-License-Identifier: MIT
use Rattle.imago_file.proofs.Openings.{created_and_sized}
use Rattle.imago_file.proofs.file.FileStorage.create_file.Goals as goal

pub returns : goal.returns
returns g c =
    created_and_sized g.H.HostFiles.created g.F.HostFile.calls _ _ _ _ _ _ _ _ _ _ _ _ _ _ _ c.get_open_options-to_open.ensures c.deref.ensures c.get_overwrite-replace.ensures c.get_size-size.ensures c.get_preallocate-mode.ensures
    c.in_ok-name.ensures.asked c.create_path.ensures.performed c.in_ok-file.was c.set_size.ensures.performed c.in_ok-set_size.was c.new.ensures
