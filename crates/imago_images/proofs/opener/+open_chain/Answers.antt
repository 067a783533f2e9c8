-- SPDX-License-Identifier: MIT
use Rattle.std.proofs.Common.{rules, ◌≡◌, ◌∙◌, ◌-◌, ◌+◌, ◌≤◌, arith, ap, sym, length, Err, option_map, subst, IfSome, Option, List, ℕ}
use Rattle.std.proofs.lemmas.Result.{err_from_is_err_and}
use Rattle.std.specs.String.{string_bytes}
use Rattle.imago_any_driver.specs.AnyDriver.{view_over}
use Rattle.imago_images.proofs.NameSteps.{told_format}
use Rattle.imago_images.specs.declared.layer.Below.{Below}
use Rattle.imago_images.specs.Images.{IsLayerOf, IsImageIn}
use Rattle.imago_images.specs.Layers.{AreWithin}
use Rattle.imago_images.proofs.PathSteps.{features_of, bytes_of}
use Rattle.imago_file.specs.StorageParts.{faults_of}
use Rattle.imago_images.proofs.PartSteps.{path_in, format_in}
use Rattle.imago_images.proofs.ChainSteps.{alone_image, over_image, limits_told, too_deep_out, next_out, below_out, last_ends, next_ends, kept_told}
use Rattle.imago_images.proofs.ImageSteps.{refused_with, chain_memory}
use Rattle.imago_images.specs.Way.{entered}
use Rattle.imago_images.specs.Chains.{IsChainRefused, IsEndingWay}
use Rattle.imago_images.proofs.NamedSteps.{alone_files, over_files}
use Rattle.imago_images.specs.ImageFiles.{HasFiles}
use Rattle.imago_images.specs.Longest.{IsNoLonger, HasShortL1}
use Rattle.imago_images.proofs.opener.+open_chain.Goals as goal

pub returns-in_default-clause-image : goal.returns-in_default-clause-image
returns-in_default-clause-image g t c =
    let contents = g.H.Files.contents in
    let opened = g.H.File.HostFile.contents in
    let known = contents c.args.host.now in
    let layer = c.in_ok-driver.field-0 in
    let says : Option Below → Type 0 = λ b. IfSome known (λ files. IsLayerOf
    (view_over (features_of contents opened) faults_of (bytes_of contents opened))
    c.args.how.accepted c.args.how.other_files files c.args.path.now c.args.format layer.driver
    (option_map path_in b)) in
    let longest : IfSome known (λ files. IsNoLonger c.args.how.longest c.args.how.accepted c.args.format (files c.args.path.now)) = search rules in
    let l1 : IfSome known (λ files. HasShortL1 c.args.format (files c.args.path.now)) = search rules in
    alone_image (view_over (features_of contents opened) faults_of (bytes_of contents opened))
    c.args.how known c.args.path.now c.args.format layer.driver
    c.alone.result c.alone.ensures.shows (subst says c.in_default.is c.in_ok-driver.ensures.layer)
    (limits_told known c.args.how c.args.path.now c.args.format longest l1 c.in_ok-driver.ensures.few)

pub returns-clause-image : goal.returns-clause-image
returns-clause-image g t c =
    let contents = g.H.Files.contents in
    let opened = g.H.File.HostFile.contents in
    let known = contents c.args.host.now in
    let layer = c.in_ok-driver.field-0 in
    let next = c.in-Some.next in
    let says : Option Below → Type 0 = λ b. IfSome known (λ files. IsLayerOf
    (view_over (features_of contents opened) faults_of (bytes_of contents opened))
    c.args.how.accepted c.args.how.other_files files c.args.path.now c.args.format layer.driver
    (option_map path_in b)) in
    let longest : IfSome known (λ files. IsNoLonger c.args.how.longest c.args.how.accepted c.args.format (files c.args.path.now)) = search rules in
    let l1 : IfSome known (λ files. HasShortL1 c.args.format (files c.args.path.now)) = search rules in
    let shows : List ℕ → Type 0 = λ p. IfSome known (λ files. IsImageIn
    (view_over (features_of contents opened) faults_of (bytes_of contents opened))
    c.args.how files p c.in_ok-file.format c.in_ok-below.below) in
    over_image (view_over (features_of contents opened) faults_of (bytes_of contents opened))
    c.args.how known c.args.path.now (string_bytes next.path)
    c.args.format c.in_ok-file.format layer.driver c.in_ok-over.field-0 c.in_ok-below.below next.format
    c.in_ok-over.ensures.shows
    (subst says c.in-Some.is c.in_ok-driver.ensures.layer)
    (limits_told known c.args.how c.args.path.now c.args.format longest l1 c.in_ok-driver.ensures.few)
    (told_format known c.args.path.now Below format_in layer.below next c.in-Some.is c.in_ok-driver.ensures.format)
    c.in_ok-file.ensures.format
    c.in_ok-file.ensures.through
    (subst shows c.deref.ensures c.in_ok-below.ensures.image)

pub returns-then-most-eq0-clause-refused : goal.returns-then-most-eq0-clause-refused
returns-then-most-eq0-clause-refused g t c =
    let contents = g.H.Files.contents in
    let opened = g.H.File.HostFile.contents in
    let host = c.args.host.now in
    let known = contents host in
    let layer = c.in_ok-driver.field-0 in
    let next = c.in-Some.next in
    let says : Option Below → Type 0 = λ b. IfSome known (λ files. IsLayerOf
    (view_over (features_of contents opened) faults_of (bytes_of contents opened))
    c.args.how.accepted c.args.how.other_files files c.args.path.now c.args.format layer.driver
    (option_map path_in b)) in
    let deep : length (entered c.args.way.now) ≡ 200 = omega arith in
    too_deep_out (view_over (features_of contents opened) faults_of (bytes_of contents opened))
    c.args.how.accepted c.args.how.other_files c.args.how (g.H.Files.statuses host) (g.H.Files.real_paths host)
    (entered c.args.way.now) c.args.path.now c.args.format c.too_many_below.result known (string_bytes next.path)
    layer.driver (subst says c.in-Some.is c.in_ok-driver.ensures.layer) deep c.too_many_below.ensures

pub returns-in_err-file-clause-refused : goal.returns-in_err-file-clause-refused
returns-in_err-file-clause-refused g t c =
    let contents = g.H.Files.contents in
    let opened = g.H.File.HostFile.contents in
    let host = c.args.host.now in
    let known = contents host in
    let layer = c.in_ok-driver.field-0 in
    let next = c.in-Some.next in
    let says : Option Below → Type 0 = λ b. IfSome known (λ files. IsLayerOf
    (view_over (features_of contents opened) faults_of (bytes_of contents opened))
    c.args.how.accepted c.args.how.other_files files c.args.path.now c.args.format layer.driver
    (option_map path_in b)) in
    let e = c.in_err-file.field-0.0 in
    let p = err_from_is_err_and c.from_residual-in_err-file.result c.from_residual-in_err-file.ensures.1 in
    refused_with c.from_residual-in_err-file.result e _ (p.1 ∙ ap (λ x. Err x) p.2)
    (next_out (view_over (features_of contents opened) faults_of (bytes_of contents opened))
    c.args.how.accepted c.args.how.other_files c.args.how (g.H.Files.statuses host) (g.H.Files.real_paths host)
    (entered c.args.way.now) c.args.path.now c.args.format e known (string_bytes next.path) next.format
    layer.driver (subst says c.in-Some.is c.in_ok-driver.ensures.layer)
    (told_format known c.args.path.now Below format_in layer.below next c.in-Some.is c.in_ok-driver.ensures.format)
    c.in_err-file.ensures.refused)

pub returns-in_err-below-clause-refused : goal.returns-in_err-below-clause-refused
returns-in_err-below-clause-refused g t c =
    let contents = g.H.Files.contents in
    let opened = g.H.File.HostFile.contents in
    let host = c.args.host.now in
    let known = contents host in
    let layer = c.in_ok-driver.field-0 in
    let next = c.in-Some.next in
    let says : Option Below → Type 0 = λ b. IfSome known (λ files. IsLayerOf
    (view_over (features_of contents opened) faults_of (bytes_of contents opened))
    c.args.how.accepted c.args.how.other_files files c.args.path.now c.args.format layer.driver
    (option_map path_in b)) in
    let e = c.in_err-below.field-0.0 in
    let p = err_from_is_err_and c.from_residual-in_err-below.result c.from_residual-in_err-below.ensures.1 in
    let anew = c.in_ok-file.ensures.anew in
    let now = entered c.next_file.new.way in
    let out : List ℕ → Type 0 = λ q. IfSome known (λ files. (down : List (List ℕ))
    × IsChainRefused files (g.H.Files.statuses host) (g.H.Files.real_paths host) c.args.how.other_files c.args.how now q
    c.in_ok-file.format down e) in
    refused_with c.from_residual-in_err-below.result e _ (p.1 ∙ ap (λ x. Err x) p.2)
    (below_out (view_over (features_of contents opened) faults_of (bytes_of contents opened))
    c.args.how.accepted c.args.how.other_files c.args.how (g.H.Files.statuses host) (g.H.Files.real_paths host)
    (entered c.args.way.now) c.args.path.now c.args.format e known (string_bytes next.path) next.format
    c.in_ok-file.format layer.driver anew.0 now (subst says c.in-Some.is c.in_ok-driver.ensures.layer)
    (told_format known c.args.path.now Below format_in layer.below next c.in-Some.is c.in_ok-driver.ensures.format)
    c.in_ok-file.ensures.format c.in_ok-file.ensures.through anew.1 anew.3
    (subst out c.deref.ensures c.in_err-below.ensures.refused))

pub returns-in_default-clause-end : goal.returns-in_default-clause-end
returns-in_default-clause-end g t c =
    let contents = g.H.Files.contents in
    let opened = g.H.File.HostFile.contents in
    let host = c.args.host.now in
    let known = contents host in
    let layer = c.in_ok-driver.field-0 in
    let says : Option Below → Type 0 = λ b. IfSome known (λ files. IsLayerOf
    (view_over (features_of contents opened) faults_of (bytes_of contents opened))
    c.args.how.accepted c.args.how.other_files files c.args.path.now c.args.format layer.driver
    (option_map path_in b)) in
    last_ends (view_over (features_of contents opened) faults_of (bytes_of contents opened))
    c.args.how.accepted c.args.how.other_files (g.H.Files.statuses host) (g.H.Files.real_paths host) c.args.how
    (entered c.args.way.now)
    c.args.path.now c.args.format known layer.driver c.args.most
    (subst says c.in_default.is c.in_ok-driver.ensures.layer)

pub returns-clause-end : goal.returns-clause-end
returns-clause-end g t c =
    let contents = g.H.Files.contents in
    let opened = g.H.File.HostFile.contents in
    let host = c.args.host.now in
    let known = contents host in
    let layer = c.in_ok-driver.field-0 in
    let next = c.in-Some.next in
    let says : Option Below → Type 0 = λ b. IfSome known (λ files. IsLayerOf
    (view_over (features_of contents opened) faults_of (bytes_of contents opened))
    c.args.how.accepted c.args.how.other_files files c.args.path.now c.args.format layer.driver
    (option_map path_in b)) in
    let anew = c.in_ok-file.ensures.anew in
    let now = entered c.next_file.new.way in
    let less : ℕ = c.args.most - 1 in
    let least : c.args.most - 1 + 1 ≤ c.args.most = omega arith in
    let shows : List ℕ → Type 0 = λ p. IfSome known (λ files. IsImageIn
    (view_over (features_of contents opened) faults_of (bytes_of contents opened))
    c.args.how files p c.in_ok-file.format c.in_ok-below.below) in
    let ends : List ℕ → Type 0 = λ q. IfSome known (λ files. IsEndingWay files (g.H.Files.statuses host)
    (g.H.Files.real_paths host) c.args.how now q c.in_ok-file.format less) in
    next_ends (view_over (features_of contents opened) faults_of (bytes_of contents opened))
    c.args.how.accepted c.args.how.other_files (g.H.Files.statuses host) (g.H.Files.real_paths host) c.args.how
    (entered c.args.way.now)
    c.args.path.now c.args.format known (string_bytes next.path) next.format c.in_ok-file.format layer.driver
    anew.0 now less c.args.most (subst says c.in-Some.is c.in_ok-driver.ensures.layer)
    (told_format known c.args.path.now Below format_in layer.below next c.in-Some.is c.in_ok-driver.ensures.format)
    c.in_ok-file.ensures.format
    (kept_told (view_over (features_of contents opened) faults_of (bytes_of contents opened)) c.args.how known
    (g.H.Files.real_paths host) c.args.path.now (string_bytes next.path) c.in_ok-file.format c.in_ok-below.below
    c.in_ok-file.ensures.through c.in_ok-file.ensures.inside
    (subst shows c.deref.ensures c.in_ok-below.ensures.image)) anew.1 anew.2 anew.3 least
    (subst ends c.deref.ensures c.in_ok-below.ensures.end)

pub returns-in_err-over-clause-refused : goal.returns-in_err-over-clause-refused
returns-in_err-over-clause-refused g t c =
    let host = c.args.host.now in
    let p = err_from_is_err_and c.from_residual-in_err-over.result c.from_residual-in_err-over.ensures.1 in
    refused_with c.from_residual-in_err-over.result p.0 _ p.1
    (chain_memory (g.H.Files.contents host) (g.H.Files.statuses host) (g.H.Files.real_paths host)
    c.args.how.other_files c.args.how (entered c.args.way.now) c.args.path.now c.args.format p.0 p.2)

pub returns-in_default-clause-tables : goal.returns-in_default-clause-tables
returns-in_default-clause-tables g t c =
    subst (λ (ns : List ℕ). AreWithin c.args.how.tables ns) (sym c.alone.ensures.tables)
    (c.in_ok-driver.ensures.tables, tt)

pub returns-clause-tables : goal.returns-clause-tables
returns-clause-tables g t c =
    subst (λ (ns : List ℕ). AreWithin c.args.how.tables ns) (sym c.in_ok-over.ensures.tables)
    (c.in_ok-driver.ensures.tables, c.in_ok-below.ensures.tables)

pub returns-in_default-clause-files : goal.returns-in_default-clause-files
returns-in_default-clause-files g t c =
    let contents = g.H.Files.contents in
    let opened = g.H.File.HostFile.contents in
    let known = contents c.args.host.now in
    let layer = c.in_ok-driver.field-0 in
    let says : Option Below → Type 0 = λ b. IfSome known (λ files. IsLayerOf
    (view_over (features_of contents opened) faults_of (bytes_of contents opened))
    c.args.how.accepted c.args.how.other_files files c.args.path.now c.args.format layer.driver
    (option_map path_in b)) in
    alone_files (view_over (features_of contents opened) faults_of (bytes_of contents opened))
    c.args.how.accepted c.args.how.other_files known c.args.path.now c.args.format layer.driver
    c.alone.result c.alone.ensures.stores (subst says c.in_default.is c.in_ok-driver.ensures.layer)
    c.in_ok-driver.ensures.files

pub returns-clause-files : goal.returns-clause-files
returns-clause-files g t c =
    let contents = g.H.Files.contents in
    let opened = g.H.File.HostFile.contents in
    let known = contents c.args.host.now in
    let layer = c.in_ok-driver.field-0 in
    let next = c.in-Some.next in
    let says : Option Below → Type 0 = λ b. IfSome known (λ files. IsLayerOf
    (view_over (features_of contents opened) faults_of (bytes_of contents opened))
    c.args.how.accepted c.args.how.other_files files c.args.path.now c.args.format layer.driver
    (option_map path_in b)) in
    let has : List ℕ → Type 0 = λ p. IfSome known (λ files. HasFiles
    (view_over (features_of contents opened) faults_of (bytes_of contents opened))
    c.args.how.accepted files p c.in_ok-file.format c.in_ok-below.below) in
    over_files (view_over (features_of contents opened) faults_of (bytes_of contents opened))
    c.args.how.accepted c.args.how.other_files known c.args.path.now c.args.format layer.driver
    c.in_ok-over.field-0 (string_bytes next.path) c.in_ok-file.format c.in_ok-below.below next.format
    c.in_ok-over.ensures.stores
    (subst says c.in-Some.is c.in_ok-driver.ensures.layer)
    c.in_ok-driver.ensures.files
    (told_format known c.args.path.now Below format_in layer.below next c.in-Some.is c.in_ok-driver.ensures.format)
    c.in_ok-file.ensures.format
    (subst has c.deref.ensures c.in_ok-below.ensures.files)
