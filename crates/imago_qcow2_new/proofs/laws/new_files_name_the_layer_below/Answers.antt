-- SPDX-License-Identifier: MIT
use Rattle.imago_qcow2_new.proofs.NameSteps.{name_there, format_there, known_named}
use Rattle.imago_qcow2_new.proofs.laws.new_files_name_the_layer_below.Goals as goal

pub returns : goal.returns
returns c = λ l values file name format is has some. record {
  names = record {
    name = λ v same. name_there l values file is has.1 name format has.0 some v same;
    format = λ v same. format_there l values file is has.1 name format has.0 some v same;
  };
  known = known_named l values file is has.1 name format has.0 some;
}
