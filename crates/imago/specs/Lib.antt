-- The disk of a chain of qcow2 files.
-- SPDX-License-Identifier: MIT
pub mod Qcow2Chain
-- Storages whose devices never fail.
pub mod Faultless
-- The definitions that the contracts of the re-exported items cite.
pub use Rattle.imago_storage.specs.Error
pub use Rattle.imago_storage.specs.Bytes
pub use Rattle.imago_storage.specs.Features
pub use Rattle.imago_storage.specs.Maintenance
pub use Rattle.imago_storage.specs.Faults
pub use Rattle.imago_storage.specs.IoCount
pub use Rattle.imago_storage.specs.Options
pub use Rattle.imago_storage.specs.Openings
pub use Rattle.imago_storage.specs.Powers
pub use Rattle.imago_storage.specs.Mem
pub use Rattle.imago_storage.specs.MemParts
pub use Rattle.imago_storage.specs.Padding
pub use Rattle.imago_storage.specs.Blocks
pub use Rattle.imago_storage.specs.Zeroes
pub use Rattle.imago_storage.specs.Steps as WriteSteps
pub use Rattle.imago_storage.specs.Calls as StorageCalls
pub use Rattle.imago_drivers.specs.Operation
pub use Rattle.imago_drivers.specs.Place
pub use Rattle.imago_drivers.specs.Outside
pub use Rattle.imago_drivers.specs.Reasons
pub use Rattle.imago_drivers.specs.LayerBelow
pub use Rattle.imago_drivers.specs.Causes
pub use Rattle.imago_drivers.specs.Parts
pub use Rattle.imago_drivers.specs.Ranges
pub use Rattle.imago_drivers.specs.CallRelations
pub use Rattle.imago_drivers.specs.Pending
pub use Rattle.imago_drivers.specs.View
pub use Rattle.imago_drivers.specs.Changes
pub use Rattle.imago_drivers.specs.Frame
pub use Rattle.imago_drivers.specs.Mapping
pub use Rattle.imago_drivers.specs.Prepared
pub use Rattle.imago_drivers.specs.Done
pub use Rattle.imago_drivers.specs.Commit
pub use Rattle.imago_drivers.specs.Lengths as StorageLengths
pub use Rattle.imago_drivers.specs.Calls as DriverCalls
pub use Rattle.imago_drivers.specs.Resized
pub use Rattle.imago_drivers.specs.Laws
pub use Rattle.imago_drivers.specs.Room
pub use Rattle.imago_drivers.specs.Worked as WorkedLayers
pub use Rattle.imago_drivers.specs.Raw
pub use Rattle.imago_drivers.specs.RawLaws
pub use Rattle.imago_drivers.specs.RawImage
pub use Rattle.imago_drivers.specs.RawDiscards
pub use Rattle.imago_drivers.specs.RawCalls
pub use Rattle.imago_drivers.specs.Opening
pub use Rattle.imago_drivers.specs.NamedGate
pub use Rattle.imago_drivers.specs.Builder
pub use Rattle.imago_drivers.specs.BuilderBase
pub use Rattle.imago_drivers.specs.RawBuilder
pub use Rattle.imago_drivers.specs.RawBuilderParts
pub use Rattle.imago_vmdk.specs.Text as DescriptorText
pub use Rattle.imago_vmdk.specs.Line as DescriptorLine
pub use Rattle.imago_vmdk.specs.Reading as DescriptorReading
pub use Rattle.imago_vmdk.specs.Probe as DescriptorProbe
pub use Rattle.imago_vmdk.specs.Vmdk
pub use Rattle.imago_vmdk.specs.Starts as ExtentStarts
pub use Rattle.imago_vmdk.specs.VmdkLaws
pub use Rattle.imago_vmdk.specs.VmdkCalls
pub use Rattle.imago_vmdk.specs.Image as VmdkImage
pub use Rattle.imago_vmdk.specs.VmdkBuilderParts
pub use Rattle.imago_vmdk.specs.VmdkBuilder
pub use Rattle.imago_vmdk.specs.Opened as ExtentsOpened
pub use Rattle.imago_vmdk.specs.Disk as VmdkDisk
pub use Rattle.imago_qcow2.specs.Numbers as BigEndian
pub use Rattle.imago_qcow2.specs.Header as Qcow2Header
pub use Rattle.imago_qcow2.specs.Entry as Qcow2Entry
pub use Rattle.imago_qcow2.specs.Tables as Qcow2Tables
pub use Rattle.imago_qcow2.specs.Fault as Qcow2Fault
pub use Rattle.imago_qcow2.specs.Limit as Qcow2Limit
pub use Rattle.imago_qcow2.specs.Backing as Qcow2Backing
pub use Rattle.imago_qcow2.specs.Opening as Qcow2Opening
pub use Rattle.imago_qcow2.specs.Disk as Qcow2Disk
pub use Rattle.imago_qcow2.specs.Qcow2
pub use Rattle.imago_qcow2.specs.Qcow2Laws
pub use Rattle.imago_qcow2.specs.Qcow2Calls
pub use Rattle.imago_qcow2.specs.Qcow2Image
pub use Rattle.imago_qcow2.specs.Qcow2BuilderParts
pub use Rattle.imago_qcow2.specs.Qcow2Builder
pub use Rattle.imago_cow.specs.Free as FreeDataBlocks
pub use Rattle.imago_cow.specs.Table as DataBlocks
pub use Rattle.imago_cow.specs.TableView as DataBlocksView
pub use Rattle.imago_cow.specs.TableLaws as DataBlockLaws
pub use Rattle.imago_cow.specs.Guest as GuestBlocks
pub use Rattle.imago_cow.specs.Cow
pub use Rattle.imago_cow.specs.CowLaws
pub use Rattle.imago_cow.specs.CowImage
pub use Rattle.imago_cow.specs.CopyCalls
pub use Rattle.imago_cow.specs.CowCalls
pub use Rattle.imago_cow.specs.Grown as GrownBlocks
pub use Rattle.imago_cow.specs.Copies as CopiedBlocks
pub use Rattle.imago_cow.specs.Worked as WorkedDataBlocks
pub use Rattle.imago_any_driver.specs.AnyCalls
pub use Rattle.imago_any_driver.specs.AnyDriver
pub use Rattle.imago_access.specs.Chain
pub use Rattle.imago_access.specs.Kept as KeptBlocks
pub use Rattle.imago_access.specs.ReaderOf
pub use Rattle.imago_access.specs.Specials
pub use Rattle.imago_access.specs.Text
pub use Rattle.imago_access.specs.Target
pub use Rattle.imago_access.specs.Resolved
pub use Rattle.imago_access.specs.Lengths
pub use Rattle.imago_access.specs.Ways
pub use Rattle.imago_access.specs.Named
pub use Rattle.imago_access.specs.Moves
pub use Rattle.imago_access.specs.Writing
pub use Rattle.imago_access.specs.Calls
pub use Rattle.imago_access.specs.Framed
pub use Rattle.imago_access.specs.Performed
pub use Rattle.imago_access.specs.ZeroCalls
pub use Rattle.imago_access.specs.Answered
pub use Rattle.imago_access.specs.Zeroing
pub use Rattle.imago_access.specs.Discarding
pub use Rattle.imago_access.specs.DiscardParts
pub use Rattle.imago_access.specs.PreparedOnDisk
pub use Rattle.imago_access.specs.Sizes
pub use Rattle.imago_access.specs.Runs
pub use Rattle.imago_access.specs.Disk
pub use Rattle.imago_access.specs.Histories
pub use Rattle.imago_access.specs.Determined
pub use Rattle.imago_access.specs.Success
pub use Rattle.imago_access.specs.Alignments
pub use Rattle.imago_access.specs.Lending
pub use Rattle.imago_access.specs.ChainLaws
pub use Rattle.imago_file.specs.Contents as FileContents
pub use Rattle.imago_file.specs.Features as FileFeatures
pub use Rattle.imago_file.specs.FileCalls
pub use Rattle.imago_file.specs.FileGate
pub use Rattle.imago_file.specs.GateParts as FileGateParts
pub use Rattle.imago_file.specs.StorageParts as FileStorageParts
pub use Rattle.imago_file.specs.Names as FileNames
pub use Rattle.imago_file.specs.Opening as FileOpening
pub use Rattle.imago_file.specs.MemoryFile
pub use Rattle.imago_copy.specs.Appended as AppendedBytes
pub use Rattle.imago_copy.specs.Runs as DiskRuns
pub use Rattle.imago_copy.specs.RunsOf as RunsLeft
pub use Rattle.imago_copy.specs.Copies as DiskCopies
pub use Rattle.imago_copy.specs.Differences as FirstDifferences
pub use Rattle.imago_plan.specs.Pieces
pub use Rattle.imago_plan.specs.PieceBytes
pub use Rattle.imago_plan.specs.StoredBytes
pub use Rattle.imago_formats.specs.Signatures as ImageSignatures
pub use Rattle.imago_images.specs.Formats as ImageFormats
pub use Rattle.imago_images.specs.Opening as ImageOpening
pub use Rattle.imago_images.specs.Extents as ExtentFiles
pub use Rattle.imago_images.specs.HostBytes
pub use Rattle.imago_images.specs.PathFile
pub use Rattle.imago_images.specs.Gate as ImageGate
pub use Rattle.imago_images.specs.Longest as ImageLimits
pub use Rattle.imago_images.specs.Layers as ImageLayers
pub use Rattle.imago_images.specs.Images as FileImages
pub use Rattle.imago_images.specs.Way as FilesAbove
pub use Rattle.imago_images.specs.Refusals as ImageRefusals
pub use Rattle.imago_images.specs.Chains as FileChains
pub use Rattle.imago_disk.specs.Disk as DiskParts
pub use Rattle.imago_disk.specs.Shows as FileDisks
-- The types of these items, under their own names; 'Declared' stands before one that a file of
-- definitions above has too.
pub use Rattle.imago_storage.specs.declared.error.Error as DeclaredError
pub use Rattle.imago_storage.specs.declared.error.ErrorKind
pub use Rattle.imago_storage.specs.declared.options.PreallocateMode as StoragePreallocateMode
pub use Rattle.imago_storage.specs.declared.options.ZeroKind
pub use Rattle.imago_storage.specs.declared.options.StorageOpenOptions
pub use Rattle.imago_storage.specs.declared.options.StorageCreateOptions
pub use Rattle.imago_storage.specs.declared.mem.MemStorage
pub use Rattle.imago_storage.specs.declared.null.Null
pub use Rattle.imago_drivers.specs.declared.format.Format
pub use Rattle.imago_drivers.specs.declared.format.PreallocateMode
pub use Rattle.imago_drivers.specs.declared.mapping.ShallowMapping
pub use Rattle.imago_drivers.specs.declared.mapping.PreparedDataMapping
pub use Rattle.imago_drivers.specs.declared.mapping.Ticket
pub use Rattle.imago_drivers.specs.declared.raw.Raw as DeclaredRaw
pub use Rattle.imago_drivers.specs.declared.gate.NamedGate as DeclaredNamedGate
pub use Rattle.imago_drivers.specs.declared.builder.FormatDriverBuilderBase
pub use Rattle.imago_drivers.specs.declared.builder.FormatCreateBuilderBase
pub use Rattle.imago_vmdk.specs.declared.line.Accepted
pub use Rattle.imago_vmdk.specs.declared.line.Extent
pub use Rattle.imago_vmdk.specs.declared.vmdk.Vmdk as DeclaredVmdk
pub use Rattle.imago_qcow2.specs.declared.entry.L2Table
pub use Rattle.imago_qcow2.specs.declared.entry.GuestCluster
pub use Rattle.imago_qcow2.specs.declared.header.Header as DeclaredQcow2Header
pub use Rattle.imago_qcow2.specs.declared.fault.OpenFault
pub use Rattle.imago_qcow2.specs.declared.qcow2.Qcow2 as DeclaredQcow2
pub use Rattle.imago_cow.specs.declared.table.GuestBlock
pub use Rattle.imago_cow.specs.declared.table.WithoutData
pub use Rattle.imago_cow.specs.declared.cow.Cow as DeclaredCow
pub use Rattle.imago_cow.specs.declared.cow.Waiting as WaitingWrite
pub use Rattle.imago_any_driver.specs.declared.any.AnyDriver as DeclaredAnyDriver
pub use Rattle.imago_access.specs.declared.access.FormatAccess
pub use Rattle.imago_access.specs.declared.mapping.Mapping as DeclaredMapping
pub use Rattle.imago_access.specs.declared.reader.Reader
pub use Rattle.imago_access.specs.declared.run.Call
pub use Rattle.imago_access.specs.declared.run.Reply
pub use Rattle.imago_file.specs.declared.file.FileStorage
pub use Rattle.imago_file.specs.declared.host.MemoryFile as DeclaredMemoryFile
pub use Rattle.imago_file.specs.declared.gate.FileGate as DeclaredFileGate
pub use Rattle.imago_copy.specs.declared.runs.Kind as RunKind
pub use Rattle.imago_copy.specs.declared.runs.Run
pub use Rattle.imago_copy.specs.declared.runs.Runs as DeclaredRuns
pub use Rattle.imago_copy.specs.declared.copy.CopyError
pub use Rattle.imago_plan.specs.declared.piece.Location
pub use Rattle.imago_plan.specs.declared.piece.Source
pub use Rattle.imago_plan.specs.declared.piece.Piece
pub use Rattle.imago_images.specs.declared.files.FileKind
pub use Rattle.imago_images.specs.declared.files.FileStatus
pub use Rattle.imago_images.specs.declared.file.PathFile as DeclaredPathFile
pub use Rattle.imago_images.specs.declared.format.ImageFormat
pub use Rattle.imago_formats.specs.declared.signature.Signature
pub use Rattle.imago_images.specs.declared.opening.Opening as DeclaredOpening
pub use Rattle.imago_images.specs.declared.opening.OtherFiles
pub use Rattle.imago_images.specs.declared.failure.OpenError
pub use Rattle.imago_images.specs.declared.failure.Reason
pub use Rattle.imago_disk.specs.declared.disk.Disk as DeclaredDisk
