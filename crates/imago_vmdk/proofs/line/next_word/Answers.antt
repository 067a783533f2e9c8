-- SPDX-License-Identifier: MIT
use Rattle.imago_vmdk.proofs.Words.{word_step}
use Rattle.imago_vmdk.proofs.line.next_word.Goals as goal

pub returns-clause-words : goal.returns-clause-words
returns-clause-words c = (word_step c.args.words.now c.next.result c.next.new.self c.requires c.next.ensures.steps).0

pub returns-clause-utf8 : goal.returns-clause-utf8
returns-clause-utf8 c = (word_step c.args.words.now c.next.result c.next.new.self c.requires c.next.ensures.steps).1
