pub mod NodesText
